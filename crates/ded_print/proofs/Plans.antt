-- The lines of plans that are put one after another, and the count of them.
use Rattle.std.proofs.Common.{◌≡◌, ℕ, suc, ◌+◌, List, [], ◌∷◌, ◌++◌, length, refl, sym, ap, ap₂, ◌∙◌, append_assoc, subst, rules, ◌<◌, drop, drop-cons, get_or, Bor}
use Rattle.std.specs.Prelude.{codes}
use Rattle.ded_model.specs.Logic.{atom, always, never, negation, every_of, some_of, implies, minus, exists, forall, Logics, none, also}
use Rattle.ded_model.specs.PlanForm.{PlanAtom, PlanForm, plan_form, plan_forms}
use Rattle.std.proofs.lemmas.List.{length-append}
use Rattle.std.proofs.lemmas.Grind.{flat_map-append}
use Rattle.ded_model.specs.declared.plan.Plan.{Plan}
use Rattle.ded_model.specs.declared.slot.Slot.{Slot}
use Rattle.ded_print.specs.declared.depth.Depth.{Depth}
use Rattle.ded_print.specs.declared.depth.Depth.TheVariants.{Below, Top}
use Rattle.ded_print.specs.declared.depth.Depth.TheFolds.{fold-roll-Depth, fold_out-Depth}
use Rattle.ded_print.specs.declared.depth.Depth.TheViews.{the_lemmas}
use Rattle.ded_print.specs.Depths.{levels}
use Rattle.ded_print.specs.Tuples.{slot_names}
use Rattle.ded_print.specs.Counts.{raised_by}
use Rattle.ded_print.proofs.Counts.{raised_both}
use Rattle.ded_print.proofs.Gathering.{puts_both}
use Rattle.ded_print.specs.Gathering.{Output, Puts}
use Rattle.ded_print.specs.Nodes.{node_text, nodes, nodes_of}
use Rattle.ded_print.specs.Lines.{line_text, lines_text}
use Rattle.ded_print.specs.Plans.{indent, later_slots_text, node_lines, part_lines, parts}
use Rattle.ded_print.proofs.Terms.{suc_is}

pub left_after : {A : Type 0} (xs : List A) (i : ℕ) (x : A) → i < length xs → x ≡ get_or xs i x → drop i xs ≡ x ∷ drop (i + 1) xs
left_after xs i x there is =
    let split : drop i xs ≡ get_or xs i x ∷ drop (i + 1) xs = rw (suc_is i) (drop-cons xs i x there) in
    split ∙ ap (λ y. y ∷ drop (i + 1) xs) (sym is)

pub indent_more : (n : ℕ) → codes "  " ++ indent n ≡ indent (n + 1)
indent_more n = sym (ap indent (suc_is n))

-- ---- counts

both_lengths : (xs ys : List (List ℕ)) → length (xs ++ ys) ≡ length xs + length ys
both_lengths xs ys = length-append xs ys

mutual
  pub counted_nodes : (d : ℕ) (f : PlanForm) → length (node_lines d f) ≡ nodes f
  counted_nodes d (atom a) = refl
  counted_nodes d always = refl
  counted_nodes d never = refl
  counted_nodes d (negation f) = ap suc (counted_nodes (d + 1) f)
  counted_nodes d (every_of fs) = ap suc (counted_parts (d + 1) fs)
  counted_nodes d (some_of fs) = ap suc (counted_parts (d + 1) fs)
  counted_nodes d (implies f g) = refl
  counted_nodes d (minus f g) = ap suc (both_lengths (node_lines (d + 1) f) (node_lines (d + 1) g) ∙ ap₂ (λ (a : ℕ) (b : ℕ). a + b) (counted_nodes (d + 1) f) (counted_nodes (d + 1) g))
  counted_nodes d (exists s k f) = ap suc (counted_nodes (d + 1) f)
  counted_nodes d (forall s k f) = refl

  pub counted_parts : (d : ℕ) (fs : Logics PlanAtom) → length (part_lines d fs) ≡ nodes_of fs
  counted_parts d none = refl
  counted_parts d (also f fs) = both_lengths (node_lines d f) (part_lines d fs) ∙ ap₂ (λ (a : ℕ) (b : ℕ). a + b) (counted_nodes d f) (counted_parts d fs)

-- ---- lines

-- a node's line before those of its parts
pub node_line : (a b : Output) (d : ℕ) (text : List ℕ) (lines : List (List ℕ)) → Puts a b (indent d ++ (text ++ ((10 ∷ []) ++ lines_text lines))) → Puts a b (lines_text ((indent d ++ text) ∷ lines))
node_line a b d text lines h = subst (λ z. Puts a b z) (sym (append_assoc (indent d ++ text) (10 ∷ []) (lines_text lines) ∙ append_assoc (indent d) text ((10 ∷ []) ++ lines_text lines))) h

-- lines after lines
pub lines_both : (xs ys : List (List ℕ)) → lines_text (xs ++ ys) ≡ lines_text xs ++ lines_text ys
lines_both xs ys = flat_map-append line_text xs ys

-- a node, where it is known what lines its parts have
pub whole_node : (a b : Output) (d : ℕ) (f : PlanForm) (lines : List (List ℕ)) → node_lines d f ≡ (indent d ++ node_text f) ∷ lines
    → Puts a b (indent d ++ (node_text f ++ ((10 ∷ []) ++ lines_text lines))) → Puts a b (lines_text (node_lines d f))
whole_node a b d f lines is h = subst (λ z. Puts a b (lines_text z)) (sym is) (node_line a b d (node_text f) lines h)

-- a node without parts
pub lone_node : (a b : Output) (d : ℕ) (f : PlanForm) (x : PlanAtom) → f ≡ atom x
    → Puts a b (indent d ++ (node_text f ++ (10 ∷ []))) → Puts a b (lines_text (node_lines d f))
lone_node a b d f x is h = whole_node a b d f [] (ap (node_lines d) is ∙ ap (λ g. (indent d ++ node_text g) ∷ []) (sym is)) h

-- one level deeper
pub below_is : (above : Bor Depth) → levels (Below above) ≡ levels above.now + 1
below_is above = search (rules, the_lemmas, fold-roll-Depth, fold_out-Depth)

-- one more part
pub next_part : (start now next : Output) (d : ℕ) (items : List Plan) (i : ℕ) (x : Plan) → i < length items → x ≡ get_or items i x
    → ((end : Output) → Puts now end (lines_text (part_lines d (plan_forms (drop i items)))) → Puts start end (lines_text (part_lines d (plan_forms items))))
    → Puts now next (lines_text (node_lines d (plan_form x)))
    → (end : Output) → Puts next end (lines_text (part_lines d (plan_forms (drop (i + 1) items)))) → Puts start end (lines_text (part_lines d (plan_forms items)))
next_part start now next d items i x there is goes put end h =
    goes end (subst (λ z. Puts now end (lines_text (part_lines d (plan_forms z)))) (sym (left_after items i x there is))
    (subst (λ z. Puts now end z) (sym (lines_both (node_lines d (plan_form x)) (part_lines d (plan_forms (drop (i + 1) items))))) (puts_both now next end _ _ put h)))

-- one more slot
pub next_slot : (start now next : Output) (items : List Slot) (i : ℕ) (d : Slot) → i < length items
    → ((end : Output) → Puts now end (later_slots_text (drop i items)) → Puts start end (later_slots_text items))
    → Puts now next (codes ", " ++ slot_names (get_or items i d))
    → (end : Output) → Puts next end (later_slots_text (drop (i + 1) items)) → Puts start end (later_slots_text items)
next_slot start now next items i d there goes put end h =
    let split : drop i items ≡ get_or items i d ∷ drop (i + 1) items = rw (suc_is i) (drop-cons items i d there) in
    goes end (subst (λ z. Puts now end (later_slots_text z)) (sym split) (puts_both now next end _ _ put h))

pub parts_are : (ps : List Plan) → parts (plan_forms ps) ≡ length ps
parts_are [] = refl
parts_are (p ∷ ps) = suc_is (parts (plan_forms ps)) ∙ ap suc (parts_are ps)

-- one more part counted
pub next_counted : (items : List Plan) (i : ℕ) (x : Plan) → i < length items → x ≡ get_or items i x → (start now next : List ℕ)
    → raised_by (nodes_of (plan_forms items)) start ≡ raised_by (nodes_of (plan_forms (drop i items))) now
    → next ≡ raised_by (nodes (plan_form x)) now
    → raised_by (nodes_of (plan_forms items)) start ≡ raised_by (nodes_of (plan_forms (drop (i + 1) items))) next
next_counted items i x there is start now next so e =
    so ∙ ap (λ z. raised_by (nodes_of (plan_forms z)) now) (left_after items i x there is)
    ∙ raised_both (nodes (plan_form x)) (nodes_of (plan_forms (drop (i + 1) items))) now
    ∙ ap (raised_by (nodes_of (plan_forms (drop (i + 1) items)))) (sym e)

pub deeper_node : (a b : Output) (above : Bor Depth) (f : PlanForm) → Puts a b (lines_text (node_lines (levels (Below above)) f)) → Puts a b (lines_text (node_lines (levels above.now + 1) f))
deeper_node a b above f h = subst (λ d. Puts a b (lines_text (node_lines d f))) (below_is above) h

pub deeper_parts : (a b : Output) (above : Bor Depth) (fs : Logics PlanAtom) → Puts a b (lines_text (part_lines (levels (Below above)) fs)) → Puts a b (lines_text (part_lines (levels above.now + 1) fs))
deeper_parts a b above fs h = subst (λ d. Puts a b (lines_text (part_lines d fs))) (below_is above) h

pub top_is : levels Top ≡ 0
top_is = search (rules, the_lemmas, fold-roll-Depth, fold_out-Depth)
