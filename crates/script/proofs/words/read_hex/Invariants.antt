use Rattle.std.proofs.Common.{◌≡◌, ◌*◌, ◌++◌, drop, vec_items}
use Rattle.std.specs.Option.{option_map}
use Rattle.script.specs.Words.{hex_read}
use Rattle.script.proofs.words.read_hex.Given as goal

abbrev pub invariant-loop-high : goal.invariant-loop-high
invariant-loop-high l = hex_read l.word ≡ option_map (λ more. vec_items l.spelling ++ more) (hex_read (drop (l.high-index * 2) l.word))
