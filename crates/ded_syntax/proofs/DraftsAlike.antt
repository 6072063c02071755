-- Drafts: the commands for which they stand, and drafts of the same symbols whose numbers are read otherwise.
use Rattle.std.proofs.Common.{◌≡◌, ℕ, Bool, true, List, refl, sym, ap, ◌∙◌}
use Rattle.std.specs.Prelude.{Some}
use Rattle.ded_model.specs.Command.{CommandForm}
use Rattle.ded_model.specs.Form.{Form, FormAtom}
use Rattle.ded_grammar.specs.declared.scan.Spot.TheVariants.{Start}
use Rattle.ded_grammar.specs.Trees.{meaning, nesting}
use Rattle.ded_grammar.proofs.Sound.{spelled}
use Rattle.ded_grammar.proofs.Told.{one_spelled}
use Rattle.ded_grammar.proofs.Leaves.{spelled_atoms}
use Rattle.ded_terminals.specs.Symbols.{Symbol}
use Rattle.ded_terminals.specs.Literals.{Reader}
use Rattle.ded_syntax.specs.Commands.{plain_form}
use Rattle.ded_model.specs.Logic.{some_atom}
use Rattle.ded_syntax.specs.Marks.{some_in}
use Rattle.ded_syntax.specs.CommandReading.{Head, view_head, ask_head, query_head, explain_head, head_form, Draft, plain, formed, draft_at, scans}
use Rattle.ded_syntax.specs.Drafts.{HasDraft, some_in_draft}
use Rattle.ded_syntax.specs.Meaning.{Means}
use Rattle.ded_terminals.proofs.TerminalsRead.{terminals_read, spelled_scans}
use Rattle.ded_syntax.proofs.CommandsRead.{plain_read, prefix_read, head_of}
use Rattle.ded_syntax.proofs.CommandsSound.{IsDraft, draft_sound}
use Rattle.ded_terminals.proofs.AnyValue.{reshapes}

-- ---- what a draft stands for

pub means_scans : (d : Draft) (c : CommandForm) (depth : ℕ) → Means d c depth → scans d ≡ true
means_scans (plain k) c depth m = refl
means_scans (formed h ps) c depth (f, sp, e) = spelled_scans ps f depth sp

abbrev pub StandsFor : Draft → Type 0
StandsFor d = (c : CommandForm) × (depth : ℕ) × Means d c depth

pub scans_means : (d : Draft) → scans d ≡ true → StandsFor d
scans_means (plain k) h = (k, 0, (refl, refl))
scans_means (formed h ps) s =
    let w = spelled ps s in
    (head_form h (meaning w.0), nesting w.0, (meaning w.0, record { tree = w.0; is = w.1; means = refl; nests = refl }, refl))

pub one_meaning : (d : Draft) (c k : CommandForm) (m n : ℕ) → Means d c m → Means d k n → (c ≡ k) × (m ≡ n)
one_meaning (plain p) c k m n (e, f) (g, h) = (e ∙ sym g, f ∙ sym h)
one_meaning (formed h ps) c k m n (f, sp, e) (g, sq, i) =
    let same = one_spelled ps f g m n sp sq in
    (e ∙ ap (head_form h) same.0 ∙ sym i, same.1)

head_atoms : (test : FormAtom → Bool) (h : Head) (f : Form) → some_in test (head_form h f) ≡ some_atom test f
head_atoms test (view_head n h) f = refl
head_atoms test ask_head f = refl
head_atoms test (query_head h) f = refl
head_atoms test (explain_head h) f = refl

-- the atoms of a draft are those of the command for which it stands
pub draft_atoms : (test : FormAtom → Bool) (d : Draft) (c : CommandForm) (depth : ℕ) → Means d c depth → some_in_draft test d ≡ some_in test c
draft_atoms test (plain k) c depth (e, flat) = ap (some_in test) (sym e)
draft_atoms test (formed h ps) c depth (f, sp, e) = spelled_atoms test ps f depth sp ∙ sym (head_atoms test h f) ∙ ap (some_in test) (sym e)

-- ---- other numbers

other_of : (value other : Reader) (ts : List Symbol) (d : Draft) → IsDraft value ts d → scans d ≡ true → HasDraft other ts
other_of value other ts (plain c) (p, e, m) s = (plain (plain_form other p), ap (draft_at other) e ∙ plain_read other p, refl)
other_of value other ts (formed h ps) (p, rest, e, are, same) s =
    let q = reshapes value other ps rest are in
    let scanned = q.2 Start 0 ∙ s in (
      formed (head_of p) q.0,
      ap (draft_at other) e ∙ prefix_read other p rest q.0 (terminals_read other rest q.0 scanned q.1),
      scanned,
    )

pub other_draft : (value other : Reader) (ts : List Symbol) (d : Draft) → draft_at value ts ≡ Some d → scans d ≡ true → HasDraft other ts
other_draft value other ts d e s = other_of value other ts d (draft_sound value ts d e) s
