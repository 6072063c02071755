-- The name, how it is compared, and with what.
use Rattle.ded_model.specs.declared.tuple.ThemeAtom.TheVariants.{EqText, NeText, EqSlot, NeSlot}
use Rattle.ded_print.proofs.Gathering.{puts_both}
use Rattle.ded_print.proofs.Terms.{themed, quoted_as}
use Rattle.ded_print.proofs.theme.put_theme.Goals as goal

pub returns-in-EqText : goal.returns-in-EqText
returns-in-EqText g c =
    themed _ _ (g.N.SlotNames.names c.args.names.now) _ (EqText c.in-EqText.slot c.in-EqText.text) c.in-EqText.is
    (puts_both _ _ _ _ _ c.put_name.ensures (puts_both _ _ _ _ _ c.put.ensures (quoted_as _ _ _ _ c.name_bytes.ensures c.put_quoted.ensures)))

pub returns-in-NeText : goal.returns-in-NeText
returns-in-NeText g c =
    themed _ _ (g.N.SlotNames.names c.args.names.now) _ (NeText c.in-NeText.slot c.in-NeText.text) c.in-NeText.is
    (puts_both _ _ _ _ _ c.put_name-in-NeText.ensures (puts_both _ _ _ _ _ c.put-in-NeText.ensures (quoted_as _ _ _ _ c.name_bytes-in-NeText.ensures c.put_quoted-in-NeText.ensures)))

pub returns-in-EqSlot : goal.returns-in-EqSlot
returns-in-EqSlot g c =
    themed _ _ (g.N.SlotNames.names c.args.names.now) _ (EqSlot c.in-EqSlot.left c.in-EqSlot.right) c.in-EqSlot.is
    (puts_both _ _ _ _ _ c.put_name-in-EqSlot.ensures (puts_both _ _ _ _ _ c.put-in-EqSlot.ensures c.put_name-in-EqSlot-2.ensures))

pub returns-in-NeSlot : goal.returns-in-NeSlot
returns-in-NeSlot g c =
    themed _ _ (g.N.SlotNames.names c.args.names.now) _ (NeSlot c.in-NeSlot.left c.in-NeSlot.right) c.in-NeSlot.is
    (puts_both _ _ _ _ _ c.put_name-in-NeSlot.ensures (puts_both _ _ _ _ _ c.put-in-NeSlot.ensures c.put_name-in-NeSlot-2.ensures))
