-- What contracts see of the sink that keeps a text.
use Rattle.std.specs.Prelude.{ℕ, List}
use Rattle.ded_readback.specs.declared.printed.PrintedText.{PrintedText}

-- the bytes of the text that the sink has kept
abbrev pub text_bytes : PrintedText → List ℕ
text_bytes t = t.bytes.items

-- how many faults it has counted
abbrev pub text_faults : PrintedText → ℕ
text_faults t = t.faults
