use Rattle.std.proofs.Common.{◌≡◌, ◌≤◌, ◌<◌, ℕ, ◌*◌, ◌++◌, length, drop, vec_items, ap, ◌∙◌, arith, length-drop}
use Rattle.std.proofs.lemmas.Bool.Decides.{nat_tests}
use Rattle.std.proofs.lemmas.List.{drop-drop}
use Rattle.std.specs.Option.{option_map}
use Rattle.script.specs.Words.{hex_read}
use Rattle.script.proofs.Hex.{pair_of, pair_read, pair-wrong, digit-left, all_read, no-word}
use Rattle.script.proofs.words.read_hex.Goals as goal
use Rattle.script.proofs.words.read_hex.Goals.{then-not-is_empty-via-then-not-is_empty, then-not-is_empty-via-else-not-is_empty+then-is_empty}

pub loop-high-preserved : goal.loop-high-preserved
loop-high-preserved c =
    let at = c.loop-high.high-index in
    let two : 2 ≤ length (drop (at * 2) c.args.word.now) = omega (arith, length-drop {A = ℕ}) in
    pair_read c.args.word.now (vec_items c.loop-high.spelling) (vec_items c.push.new.self) (drop (at * 2) c.args.word.now) c.in-Some.byte two
    (c.in-Some.ensures ∙ pair_of _ at c.args.word.now _ c.as_chunks.result.0.now c.as_bytes.ensures.value c.as_chunks.ensures.front (omega arith)) c.in_ok-push.ensures.items c.loop-high.invariant
    ∙ ap (λ rest. option_map (λ more. vec_items c.push.new.self ++ more) (hex_read rest)) (drop-drop 2 (at * 2) c.args.word.now)
    ∙ ap (λ n. option_map (λ more. vec_items c.push.new.self ++ more) (hex_read (drop n c.args.word.now))) (omega arith)

pub returns-in_default : goal.returns-in_default
returns-in_default c =
    let at = c.loop-high.high-index in
    let two : 2 ≤ length (drop (at * 2) c.args.word.now) = omega (arith, length-drop {A = ℕ}) in
    pair-wrong c.args.word.now (vec_items c.loop-high.spelling) (drop (at * 2) c.args.word.now) two
    (c.in_default.ensures ∙ pair_of _ at c.args.word.now _ c.as_chunks.result.0.now c.as_bytes.ensures.value c.as_chunks.ensures.front (omega arith)) c.loop-high.invariant

pub returns-then-not-is_empty : goal.returns-then-not-is_empty
returns-then-not-is_empty c =
    elim c.then-not-is_empty.branch [
      | then-not-is_empty-via-then-not-is_empty w ↦
          let some : 0 < length c.as_chunks.result.1.now = grind (arith, nat_tests) in
          digit-left c.args.word.now (vec_items c.loop-high.spelling) (drop (c.loop-high.high-index * 2) c.args.word.now) (omega (arith, length-drop {A = ℕ})) c.loop-high.invariant
      | then-not-is_empty-via-else-not-is_empty+then-is_empty w ↦ no-word c.args.word.now (grind (arith, nat_tests))
    ]

pub returns : goal.returns
returns c =
    let none : length c.as_chunks.result.1.now ≡ 0 = grind (arith, nat_tests) in
    let some : 0 < length c.args.word.now = grind (arith, nat_tests) in
    all_read c.args.word.now (vec_items c.loop-high.spelling) (drop (c.loop-high.high-index * 2) c.args.word.now) (omega (arith, length-drop {A = ℕ})) some c.loop-high.invariant
