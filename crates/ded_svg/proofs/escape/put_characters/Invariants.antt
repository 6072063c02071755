-- What the characters so far are written as was put.
use Rattle.std.proofs.Common.{◌≡◌, ◌++◌, flat_map}
use Rattle.ded_svg.specs.Escaping.{character_text}
use Rattle.ded_svg.proofs.escape.put_characters.Given as goal

abbrev pub invariant-loop-c : goal.invariant-loop-c
invariant-loop-c l = l.text ≡ l.fn.text ++ flat_map character_text l.yielded
