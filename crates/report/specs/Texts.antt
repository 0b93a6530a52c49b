-- Texts while they are put together. Only contracts inside the crate cite these.
use Rattle.std.specs.Prelude.{◌≡◌, ℕ, ◌+◌, ◌≤◌, List, length, take, drop}
use Rattle.report.specs.declared.text.Text.{Text}

-- what is written so far
abbrev pub text_of : Text → List ℕ
text_of t = take t.len t.buffer.now

-- a text has room behind it for another
abbrev pub Fits : Text → List ℕ → Type 0
Fits text more = text.len + length more ≤ length text.buffer.now

-- a text lies in the same buffer as before, has lost no byte, and the bytes behind it stayed
pub record Kept (before : Text) (after : Text) : Type 0 where
  pub grown : before.len ≤ after.len
  pub behind : drop after.len after.buffer.now ≡ drop after.len before.buffer.now
  pub size : length after.buffer.now ≡ length before.buffer.now
  pub same_buffer : after.buffer.ghost_name ≡ before.buffer.ghost_name
