-- A text that is cut at its first comma.
use Rattle.std.proofs.Common.{◌≡◌, ℕ, ◌+◌, ◌-◌, ◌<◌, ◌≤◌, true, false, List, [], ◌∷◌, ◌++◌, length, take, drop, get_or, refl, sym, ap, ◌∙◌, append_assoc}
use Rattle.std.specs.Prelude.{◌==◌, Option, Some, None}
use Rattle.std.proofs.lemmas.List.{append-nil, drop_all, drop_more, take_more, take_rest}
use Rattle.ded_draw.specs.Words.{cut_at_comma, with_byte}

-- what stands before the comma begins with this
abbrev pub with_front : List ℕ → Option (List ℕ × List ℕ) → Option (List ℕ × List ℕ)
with_front front None = None
with_front front (Some pair) = Some (front ++ pair.0, pair.1)

pub no_front : (cut : Option (List ℕ × List ℕ)) → cut ≡ with_front [] cut
no_front None = refl
no_front (Some pair) = refl

longer_front : (front : List ℕ) (b : ℕ) (cut : Option (List ℕ × List ℕ)) → with_front front (with_byte b cut) ≡ with_front (front ++ b ∷ []) cut
longer_front front b None = refl
longer_front front b (Some pair) = ap (λ (l : List ℕ). Some (l, pair.1)) (sym (append_assoc front (b ∷ []) pair.0))

no_comma : (b : ℕ) (bs : List ℕ) → (b == 44) ≡ false → cut_at_comma (b ∷ bs) ≡ with_byte b (cut_at_comma bs)
no_comma b bs e = rw e refl

a_comma : (b : ℕ) (bs : List ℕ) → (b == 44) ≡ true → cut_at_comma (b ∷ bs) ≡ Some ([], bs)
a_comma b bs e = rw e refl

module _ (text : List ℕ) (i : ℕ) (so_far : cut_at_comma text ≡ with_front (take i text) (cut_at_comma (drop i text))) where
  pub next_front : (d : ℕ) → i < length text → (get_or text i d == 44) ≡ false → cut_at_comma text ≡ with_front (take (i + 1) text) (cut_at_comma (drop (i + 1) text))
  next_front d there e =
      so_far ∙ ap (λ (l : List ℕ). with_front (take i text) (cut_at_comma l)) (drop_more text i d there)
      ∙ ap (λ (o : Option (List ℕ × List ℕ)). with_front (take i text) o) (no_comma (get_or text i d) (drop (i + 1) text) e)
      ∙ longer_front (take i text) (get_or text i d) (cut_at_comma (drop (i + 1) text))
      ∙ ap (λ (l : List ℕ). with_front l (cut_at_comma (drop (i + 1) text))) (sym (take_more text i d there))

  pub at_comma : (d : ℕ) → i < length text → (get_or text i d == 44) ≡ true → Some (take i text, take (length text - (i + 1)) (drop (i + 1) text)) ≡ cut_at_comma text
  at_comma d there e = sym (
      so_far ∙ ap (λ (l : List ℕ). with_front (take i text) (cut_at_comma l)) (drop_more text i d there)
      ∙ ap (λ (o : Option (List ℕ × List ℕ)). with_front (take i text) o) (a_comma (get_or text i d) (drop (i + 1) text) e)
      ∙ ap (λ (l : List ℕ). Some (l, drop (i + 1) text)) (append-nil (take i text))
      ∙ ap (λ (l : List ℕ). Some (take i text, l)) (sym (take_rest text (i + 1))))

  pub without : length text ≤ i → None ≡ cut_at_comma text
  without end = sym (so_far ∙ ap (λ (l : List ℕ). with_front (take i text) (cut_at_comma l)) (drop_all i text end))
