-- What a command is by slots, over a catalogue that refuses it for nothing.
use Rattle.std.specs.Prelude.{◌≡◌, []}
use Rattle.ded_model.specs.Catalogue.{Catalogue}
use Rattle.ded_model.specs.Command.{CommandForm, header, relation, insert, delete, drop, view, keep, ask, query, show, box_of, explain, dump, disjoint, verify}
use Rattle.ded_model.specs.Entries.{columns_in}
use Rattle.ded_model.specs.Form.{form}
use Rattle.ded_model.specs.Goal.{goal_form}
use Rattle.ded_model.specs.Slotted.{goal_of, tuple_of}
use Rattle.ded_sorts.specs.Checks.{forms_of}
use Rattle.ded_resolve.specs.declared.checked.Checked.{Checked}
use Rattle.ded_resolve.specs.declared.checked.Checked.TheVariants as checked

-- the command with its formula by slots: that of an insert is the normal tuple of its comparisons over the relation's columns,
-- every other one its goal over the heading, none for a closed one; what has no formula stays as it is
abbrev pub IsResolved : Catalogue → CommandForm → Checked → Type 0
IsResolved c header checked.Header = Unit {0}
IsResolved c (relation n h) (checked.Relation m k) = (m ≡ n) × (k ≡ h)
IsResolved c (insert n fs) (checked.Insert m t) = (m ≡ n) × (t ≡ tuple_of (columns_in c n) (forms_of fs))
IsResolved c (delete n i) (checked.Delete m j) = (m ≡ n) × (j ≡ i)
IsResolved c (drop n) (checked.Drop m) = m ≡ n
IsResolved c (view n h f) (checked.View m k f' g) = (m ≡ n) × (k ≡ h) × (form f' ≡ f) × (goal_form g ≡ goal_of h f)
IsResolved c (keep n) (checked.Keep m) = m ≡ n
IsResolved c (ask f) (checked.Ask g) = goal_form g ≡ goal_of [] f
IsResolved c (query h f) (checked.Query k g) = (k ≡ h) × (goal_form g ≡ goal_of h f)
IsResolved c (show n) (checked.Show m) = m ≡ n
IsResolved c (box_of n) (checked.BoxOf m) = m ≡ n
IsResolved c (explain h f) (checked.Explain k g) = (k ≡ h) × (goal_form g ≡ goal_of h f)
IsResolved c dump checked.Dump = Unit {0}
IsResolved c (disjoint n m) (checked.Disjoint k l) = (k ≡ n) × (l ≡ m)
IsResolved c (verify n m es) (checked.Verify k l fs) = (k ≡ n) × (l ≡ m) × (fs.items ≡ es)
IsResolved c _ _ = ⊥
