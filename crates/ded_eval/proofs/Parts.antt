-- The parts of a join or a union, one after another.
use Rattle.std.proofs.Common.{◌≡◌, ℕ, zero, suc, ◌+◌, ◌<◌, ◌≤◌, Bool, true, List, [], ◌∷◌, ◌++◌, length, get_or, take, drop, map, arith, add-one, sym, ap, ◌∙◌, subst}
use Rattle.std.proofs.lemmas.List.{map-append}
use Rattle.ded_model.specs.declared.plan.Plan.{Plan}
use Rattle.ded_model.specs.Logic.{logics, any_mentions, AllAtoms, AllAtomsOf}
use Rattle.ded_model.specs.Lines.{Line, In, IsSubset, all_lines, clashes, any_clashes}
use Rattle.ded_model.specs.Measure.{Measures, plan_atom_lines, plan_lines}
use Rattle.ded_model.specs.PlanForm.{PlanAtom, in_plan_atom, plan_form, plan_forms, plan_mentions}
use Rattle.ded_model.specs.Point.{Key, Point}
use Rattle.std.proofs.lemmas.Bool.{and_parts}
use Rattle.ded_model.proofs.Members.{In-left, In-right}
use Rattle.ded_model.proofs.Rows.{or_left, or_right}
use Rattle.ded_eval.specs.Within.{all_rows_hold, rows_hold}
use Rattle.ded_genrel.proofs.Items.{done_to}

-- what is said of all atoms is said of those of a part
pub part_atoms : (P : PlanAtom → Type 0) (ps : List Plan) (i : ℕ) (p : Plan) → i < length ps → p ≡ get_or ps i p → AllAtomsOf P (plan_forms ps) → AllAtoms P (plan_form p)
part_atoms P [] i p l e a = absurd (omega (arith, l))
part_atoms P (q ∷ ps) zero p l e a = subst (λ x. AllAtoms P (plan_form x)) (sym e) a.0
part_atoms P (q ∷ ps) (suc i) p l e a = part_atoms P ps i p (omega (arith, l)) e a.1

-- where a part clashes, they do
pub part_clashes : (of : PlanAtom → List Line) (test : PlanAtom → Bool) (ps : List Plan) (i : ℕ) (p : Plan) → i < length ps → p ≡ get_or ps i p → clashes of test (plan_form p) ≡ true → any_clashes of test (plan_forms ps) ≡ true
part_clashes of test [] i p l e c = absurd (omega (arith, l))
part_clashes of test (q ∷ ps) zero p l e c = or_left _ _ (ap (λ x. clashes of test (plan_form x)) (sym e) ∙ c)
part_clashes of test (q ∷ ps) (suc i) p l e c = or_right (clashes of test (plan_form q)) _ (part_clashes of test ps i p (omega (arith, l)) e c)

-- what they mention, their lines, and what is so of the rows of all parts
pub part_mentions : (ps : List Plan) (i : ℕ) (p : Plan) (k : Key) → i < length ps → p ≡ get_or ps i p → plan_mentions (plan_form p) k ≡ true → any_mentions in_plan_atom (logics (map plan_form ps)) k ≡ true
part_mentions [] i p k l e c = absurd (omega (arith, l))
part_mentions (q ∷ ps) zero p k l e c = or_left _ _ (ap (λ x. plan_mentions (plan_form x) k) (sym e) ∙ c)
part_mentions (q ∷ ps) (suc i) p k l e c = or_right (plan_mentions (plan_form q) k) _ (part_mentions ps i p k (omega (arith, l)) e c)

pub part_lines : (M : Measures) (ps : List Plan) (i : ℕ) (p : Plan) → i < length ps → p ≡ get_or ps i p → IsSubset (plan_lines M (plan_form p)) (all_lines (plan_atom_lines M) (logics (map plan_form ps)))
part_lines M [] i p l e = absurd (omega (arith, l))
part_lines M (q ∷ ps) zero p l e = λ x j. In-left x (plan_lines M (plan_form q)) (all_lines (plan_atom_lines M) (logics (map plan_form ps))) (subst (λ (r : Plan). In x (plan_lines M (plan_form r))) e j)
part_lines M (q ∷ ps) (suc i) p l e = λ x j. In-right x (plan_lines M (plan_form q)) (all_lines (plan_atom_lines M) (logics (map plan_form ps))) (part_lines M ps i p (omega (arith, l)) e x j)

pub part_rows : (ps : List Plan) (i : ℕ) (p : Plan) (q : Point) → i < length ps → p ≡ get_or ps i p → all_rows_hold (map plan_form ps) q ≡ true → rows_hold (plan_form p) q ≡ true
part_rows [] i p q l e a = absurd (omega (arith, l))
part_rows (r ∷ ps) zero p q l e a = ap (λ x. rows_hold (plan_form x) q) e ∙ (and_parts _ _ a).0
part_rows (r ∷ ps) (suc i) p q l e a = part_rows ps i p q (omega (arith, l)) e (and_parts (rows_hold (plan_form r) q) _ a).1

-- what is done ends with the part
pub parts_to : (ps : List Plan) (i : ℕ) (p : Plan) → i < length ps → p ≡ get_or ps i p → map plan_form (take (i + 1) ps) ≡ map plan_form (take i ps) ++ plan_form p ∷ []
parts_to ps i p l e = ap (map plan_form) (done_to ps i p l e) ∙ map-append plan_form (take i ps) (p ∷ [])

-- what is said of the atoms of all parts that are left
pub rest_atoms : (P : PlanAtom → Type 0) (ps : List Plan) (i : ℕ) → i < length ps → AllAtomsOf P (plan_forms (drop i ps)) → AllAtomsOf P (plan_forms (drop (i + 1) ps))
rest_atoms P [] i l a = absurd (omega (arith, l))
rest_atoms P (q ∷ ps) zero l a = a.1
rest_atoms P (q ∷ ps) (suc i) l a = subst (λ k. AllAtomsOf P (plan_forms (drop k (q ∷ ps)))) (sym (add-one (suc i))) (subst (λ k. AllAtomsOf P (plan_forms (drop k ps))) (add-one i) (rest_atoms P ps i (omega (arith, l)) a))

-- one part more
pub atoms-push : (P : PlanAtom → Type 0) (ps : List Plan) (p : Plan) → AllAtomsOf P (plan_forms ps) → AllAtoms P (plan_form p) → AllAtomsOf P (plan_forms (ps ++ p ∷ []))
atoms-push P [] p a k = (k, tt)
atoms-push P (q ∷ ps) p a k = (a.0, atoms-push P ps p a.1 k)

-- a list of two
pub two_items : {A : Type 0} (xs : List A) (a b : A) → 2 ≤ length xs → length xs < 3 → a ≡ get_or xs 0 a → b ≡ get_or xs 1 b → xs ≡ a ∷ b ∷ []
two_items [] a b l m e f = absurd (omega (arith, l))
two_items (x ∷ []) a b l m e f = absurd (omega (arith, l))
two_items (x ∷ y ∷ []) a b l m e f = ap (λ z. z ∷ y ∷ []) (sym e) ∙ ap (λ z. a ∷ z ∷ []) (sym f)
two_items (x ∷ y ∷ z ∷ xs) a b l m e f = absurd (omega (arith, m))
