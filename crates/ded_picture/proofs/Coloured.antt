-- Texts and the numbers of their colours.
use Rattle.std.proofs.Common.{◌≡◌, ℕ, ◌+◌, ◌<◌, ◌≤◌, List, [], ◌∷◌, ◌++◌, length, drop, get_or, sym, ap, ◌∙◌, subst}
use Rattle.std.proofs.Common.{Bor}
use Rattle.std.specs.Prelude.{Option, Some, slice_get}
use Rattle.std.specs.Option.{option_copied}
use Rattle.std.proofs.lemmas.List.{append-nil, drop_all}
use Rattle.ded_print.proofs.Plans.{left_after}
use Rattle.ded_dump.proofs.Loops.{one_part}
use Rattle.ded_figures.specs.declared.sight.Sight.{Sight}
use Rattle.ded_svg.specs.declared.picture.LegendEntry.{LegendEntry}
use Rattle.ded_picture.specs.Colours.{entries_of, labels_from, with_label, words_of}
use Rattle.ded_picture.proofs.Listing.{next_at}

pub next_label : (whole labels now : List (List ℕ)) (ss : List Sight) (i : ℕ) (s : Sight) → i < length ss → s ≡ get_or ss i s
    → labels_from labels (drop i ss) ≡ whole → now ≡ with_label labels s → labels_from now (drop (i + 1) ss) ≡ whole
next_label whole labels now ss i s there is e put =
    ap (λ (l : List (List ℕ)). labels_from l (drop (i + 1) ss)) put ∙ subst (λ (l : List Sight). labels_from labels l ≡ whole) (left_after ss i s there is) e

pub all_labels : (whole labels : List (List ℕ)) (ss : List Sight) (i : ℕ) → length ss ≤ i → labels_from labels (drop i ss) ≡ whole → labels ≡ whole
all_labels whole labels ss i end e = ap (λ (l : List Sight). labels_from labels l) (sym (drop_all i ss end)) ∙ e

pub next_entry : (whole done now : List LegendEntry) (ls : List (List ℕ)) (i n m : ℕ) (l words : List ℕ) → slice_get ls i ≡ Some l
    → done ++ entries_of n (drop i ls) ≡ whole → words ≡ words_of l → now ≡ done ++ record { colour = n; words = words } ∷ [] → m ≡ n + 1 → now ++ entries_of m (drop (i + 1) ls) ≡ whole
next_entry whole done now ls i n m l words is e told put next =
    ap (λ (k : ℕ). now ++ entries_of k (drop (i + 1) ls)) next
    ∙ one_part whole done now (record { colour = n; words = words_of l } ∷ []) (entries_of (n + 1) (drop (i + 1) ls))
    (subst (λ (r : List (List ℕ)). done ++ entries_of n r ≡ whole) (next_at ls i l is) e)
    (put ∙ ap (λ (w : List ℕ). done ++ record { colour = n; words = w } ∷ []) told)

pub all_entries : (whole now : List LegendEntry) (ls : List (List ℕ)) (i n : ℕ) → length ls ≤ i → now ++ entries_of n (drop i ls) ≡ whole → now ≡ whole
all_entries whole now ls i n end e = sym (append-nil now) ∙ ap (λ (r : List (List ℕ)). now ++ entries_of n r) (sym (drop_all i ls end)) ∙ e

-- the text that is found at a place
pub label_at : (ls : List (List ℕ)) (i : ℕ) (l : Bor (List ℕ)) (found : Option (Bor (List ℕ))) → found ≡ Some l → option_copied found ≡ slice_get ls i → slice_get ls i ≡ Some l.now
label_at ls i l found is at = sym at ∙ ap option_copied is
