-- Parts that are put one after another: what is put and what is left to put make the whole.
use Rattle.std.proofs.Common.{◌≡◌, ℕ, ◌+◌, ◌<◌, List, [], ◌∷◌, ◌++◌, length, drop, get_or, ap, ◌∙◌, subst}
use Rattle.ded_dump.proofs.Loops.{one_part, led_part}
use Rattle.ded_model.specs.declared.name.Column.{Column}
use Rattle.ded_model.specs.Row.{Atom}
use Rattle.ded_print.specs.Plans.{sort_text}
use Rattle.ded_print.proofs.Plans.{left_after}
use Rattle.ded_cells.specs.declared.extent.Extent.{Extent}
use Rattle.ded_cells.specs.Lines.{cell_text, cells_text, condition_after, conditions_text, next_lead, told_text, ties_text}
use Rattle.ded_cells.specs.Tables.{titles_text}

pub next_title : (whole done a b now lead : List ℕ) (cs : List Column) (i : ℕ) (c : Column) → i < length cs → c ≡ get_or cs i c
    → done ++ titles_text lead (drop i cs) ≡ whole → a ≡ done ++ lead → b ≡ a ++ c.name → now ≡ b ++ sort_text c.sort
    → now ++ titles_text (9 ∷ []) (drop (i + 1) cs) ≡ whole
next_title whole done a b now lead cs i c there is e k m n =
    let left = titles_text (9 ∷ []) (drop (i + 1) cs) in
    let all : done ++ (lead ++ (c.name ++ (sort_text c.sort ++ left))) ≡ whole = subst (λ (ds : List Column). done ++ titles_text lead ds ≡ whole) (left_after cs i c there is) e in
    one_part whole b now (sort_text c.sort) left (led_part whole done a b lead c.name (sort_text c.sort ++ left) all k m) n

module _ (h : List Column) (atoms : List Atom) (x : Extent) where
  pub next_cell : (whole done a now lead : List ℕ) (n m : ℕ) (cs : List Column) (i : ℕ) (c : Column) → i < length cs → c ≡ get_or cs i c
      → done ++ cells_text h atoms x n lead (drop i cs) ≡ whole → a ≡ done ++ lead → now ≡ a ++ cell_text h atoms x n c → m ≡ n + 1
      → now ++ cells_text h atoms x m (9 ∷ []) (drop (i + 1) cs) ≡ whole
  next_cell whole done a now lead n m cs i c there is e k put next =
      let left = cells_text h atoms x (n + 1) (9 ∷ []) (drop (i + 1) cs) in
      let all : done ++ (lead ++ (cell_text h atoms x n c ++ left)) ≡ whole = subst (λ (ds : List Column). done ++ cells_text h atoms x n lead ds ≡ whole) (left_after cs i c there is) e in
      ap (λ (j : ℕ). now ++ cells_text h atoms x j (9 ∷ []) (drop (i + 1) cs)) next ∙ led_part whole done a now lead (cell_text h atoms x n c) left all k put

pub next_tie : (h : List Column) (x : Extent) (whole done now : List ℕ) (atoms : List Atom) (i : ℕ) (t : Atom) → i < length atoms → t ≡ get_or atoms i t
    → done ++ ties_text h x (drop i atoms) ≡ whole → now ≡ done ++ told_text h x t → now ++ ties_text h x (drop (i + 1) atoms) ≡ whole
next_tie h x whole done now atoms i t there is e put =
    one_part whole done now (told_text h x t) (ties_text h x (drop (i + 1) atoms)) (subst (λ (ts : List Atom). done ++ ties_text h x ts ≡ whole) (left_after atoms i t there is) e) put

pub next_condition : (name : List ℕ) (n : ℕ) (whole done now lead next : List ℕ) (atoms : List Atom) (i : ℕ) (t : Atom) → i < length atoms → t ≡ get_or atoms i t
    → done ++ conditions_text name n lead (drop i atoms) ≡ whole → now ≡ done ++ condition_after name n lead t → next ≡ next_lead n lead t
    → now ++ conditions_text name n next (drop (i + 1) atoms) ≡ whole
next_condition name n whole done now lead next atoms i t there is e put leads =
    let left = conditions_text name n (next_lead n lead t) (drop (i + 1) atoms) in
    let all : done ++ (condition_after name n lead t ++ left) ≡ whole = subst (λ (ts : List Atom). done ++ conditions_text name n lead ts ≡ whole) (left_after atoms i t there is) e in
    ap (λ (l : List ℕ). now ++ conditions_text name n l (drop (i + 1) atoms)) leads ∙ one_part whole done now (condition_after name n lead t) left all put
