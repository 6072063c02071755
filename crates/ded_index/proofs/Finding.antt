-- The numbers that a visit gathers.
use Rattle.std.proofs.Common.{◌≡◌, ℕ, false, List, [], ◌∷◌, ◌++◌, sym, ap, ◌∙◌, append_assoc, append-nil}
use Rattle.std.specs.List.{AllByRecursion}
use Rattle.ded_box.specs.Intervals.{may_meet, has_value}
use Rattle.ded_box.specs.Boxes.{AreIntervals}
use Rattle.ded_index.specs.declared.entry.BoxEntry.{BoxEntry}
use Rattle.ded_index.specs.declared.tree.BoxNode.{BoxNode}
use Rattle.ded_index.specs.Entries.{Box, first_of, low, ids_in}
use Rattle.ded_index.specs.Trees.{entries_of}
use Rattle.ded_index.proofs.Members.{ids_in-append}
use Rattle.ded_index.proofs.Pruning.{IsRound, IsFar, right_far, far_found, far_window, dead_found}

module _ (w : Box) (ns : List BoxNode) (n : BoxNode) (ls rs : List BoxNode) (round : IsRound ns n ls rs) (iw : AreIntervals w) where
  -- nothing, where all end before the window begins
  pub dead : (out : List ℕ) → may_meet (first_of w).0 n.end ≡ false → out ≡ out ++ ids_in w (entries_of ns)
  dead out h = sym (append-nil out) ∙ ap (λ is. out ++ is) (sym (dead_found w (entries_of ns) n.end iw round.greatest h))

  -- the left half, where the node begins after the window ends
  pub left_alone : (out next : List ℕ) → may_meet (low n.entry) (first_of w).1 ≡ false → next ≡ out ++ ids_in w (entries_of ls) → next ≡ out ++ ids_in w (entries_of ns)
  left_alone out next h e =
      let none = far_found w (n.entry ∷ entries_of rs) (right_far w n.entry (entries_of rs) iw round.sound round.right.sound round.after h) in
      e ∙ ap (λ is. out ++ is) (sym (ap (ids_in w) round.split ∙ ids_in-append w (entries_of ls) (n.entry ∷ entries_of rs) ∙ ap (λ is. ids_in w (entries_of ls) ++ is) none ∙ append-nil (ids_in w (entries_of ls))))

  -- both halves with the node between them
  pub all_three : (out next then last : List ℕ) → next ≡ out ++ ids_in w (entries_of ls) → then ≡ next ++ ids_in w (n.entry ∷ []) → last ≡ then ++ ids_in w (entries_of rs) → last ≡ out ++ ids_in w (entries_of ns)
  all_three out next then last e f g =
      let one = ids_in w (n.entry ∷ []) in
      let right = ids_in w (entries_of rs) in
      g ∙ ap (λ is. is ++ right) (f ∙ ap (λ is. is ++ one) e) ∙ append_assoc (out ++ ids_in w (entries_of ls)) one right ∙ append_assoc out (ids_in w (entries_of ls)) (one ++ right)
      ∙ ap (λ is. out ++ is) (ap (λ is. ids_in w (entries_of ls) ++ is) (sym (ids_in-append w (n.entry ∷ []) (entries_of rs))) ∙ sym (ids_in-append w (entries_of ls) (n.entry ∷ entries_of rs)) ∙ sym (ap (ids_in w) round.split))

-- nothing lies in a window whose first interval is empty
pub none_found : (w : Box) (es : List BoxEntry) (out : List ℕ) → has_value (first_of w) ≡ false → out ≡ out ++ ids_in w es
none_found w es out h = sym (append-nil out) ∙ ap (λ is. out ++ is) (sym (far_found w es (all_far es)))
  where
    all_far : (es : List BoxEntry) → AllByRecursion (IsFar w) es
    all_far [] = tt
    all_far (e ∷ es) = (far_window w e h, all_far es)
