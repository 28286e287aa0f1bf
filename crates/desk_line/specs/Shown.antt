-- The answer that holds a text: it shows the text's bytes.
use Rattle.std.specs.Prelude.{ℕ, ◌≤◌, ◌≡◌, List, length, take}
use Rattle.lists.specs.Lists.{filled}
use Rattle.desk_line.specs.declared.texts.Text.TheInside.{Inside}

-- a text in 128 bytes, with zeros past its end, and its length
unfoldable pub text_of : List ℕ → Inside
text_of xs = record { bytes = filled 128 xs; length = length xs }

-- the text that an answer holds
abbrev pub shown : Inside → List ℕ
shown t = take t.length t.bytes

-- every answer has zeros past its text, and room for it
pub record Whole (t : Inside) : Type 0 where
  pub same : t ≡ text_of (shown t)
  pub fits : length (shown t) ≤ 128
