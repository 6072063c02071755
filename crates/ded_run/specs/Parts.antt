-- The parts of which a made statement is put together.
use Rattle.std.specs.Prelude.{ℕ, List}
use Rattle.std.specs.List.{flat_map}
use Rattle.ded_print.specs.Numbers.{number_text}
use Rattle.ded_run.specs.declared.made.TextPart.{TextPart}
use Rattle.ded_run.specs.declared.made.TextPart.TheVariants.{Text, Number}

-- a text as it stands, or a number in decimal
abbrev pub part_bytes : TextPart → List ℕ
part_bytes (Text bytes) = bytes.now
part_bytes (Number n) = number_text n

-- parts one after another
abbrev pub parts_bytes : List TextPart → List ℕ
parts_bytes parts = flat_map part_bytes parts
