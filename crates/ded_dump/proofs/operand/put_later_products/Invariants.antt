-- What is put and what is left to put make the whole.
use Rattle.std.proofs.Common.{◌≡◌, ◌++◌, drop}
use Rattle.ded_model.specs.Sum.{ArePartsWithin}
use Rattle.ded_dump.specs.Operands.{later_products_text}
use Rattle.ded_dump.proofs.operand.put_later_products.Given as goal

abbrev pub invariant-loop-name : goal.invariant-loop-name
invariant-loop-name l = record {
  same : l.text ++ later_products_text l.over (drop l.name-index l.parts) ≡ l.fn.text ++ later_products_text l.over l.parts;
  short : ArePartsWithin 112 (drop l.name-index l.parts);
}
