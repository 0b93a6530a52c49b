use Rattle.std.proofs.Common.{sym, ap, ◌∙◌}
use Rattle.bench.proofs.Fitting.{fits, ok-not-err}
use Rattle.bench.proofs.effect.append_both.Goals as goal

pub returns-in_err-append : goal.returns-in_err-append
returns-in_err-append g c =
    let ok = sym (fits g.K.Key g.H.Line g.R.Line c.args.key c.args.house.now c.args.rival.now c.requires).0 ∙ c.append.ensures.keys in
    absurd (ok-not-err (sym (ap (λ p. p.0) ok)) c.in_err-append.was)

pub returns : goal.returns
returns g c =
    let both = fits g.K.Key g.H.Line g.R.Line c.args.key c.args.house.now c.args.rival.now c.requires in
    let first = sym both.0 ∙ c.append.ensures.keys in
    let second = sym both.1 ∙ c.append-2.ensures.keys in
    record {
      done = sym (ap (λ p. p.0) second);
      limits = λ i. record { house = c.append.ensures.limit i; rival = c.append-2.ensures.limit i };
      house = sym (ap (λ p. p.1) first);
      rival = sym (ap (λ p. p.1) second);
    }
