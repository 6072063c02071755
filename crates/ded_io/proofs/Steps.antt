-- Steps of a sink add up to what `send` promises.
use Rattle.std.proofs.Common.{ℕ, ◌-◌, List, [], ◌++◌, length, take, drop, sym, ap, ◌∙◌, append_assoc, append-nil, subst}
use Rattle.std.specs.Prelude.{None, Some}
use Rattle.std.specs.declared.option.Option.{Option}
use Rattle.std.specs.Io.KnownBytes.{Appends}
use Rattle.std.proofs.lemmas.List.{take-append-drop}
use Rattle.ded_num.proofs.Tests.{range_from}
use Rattle.ded_io.specs.Devices.{Sent}

-- two pieces that were added one after the other
pub appends_both : (a b c : Option (List ℕ)) (xs ys : List ℕ) → Appends a b xs → Appends b c ys → Appends a c (xs ++ ys)
appends_both None b c xs ys p q = tt
appends_both (Some u) None c xs ys p q = absurd p
appends_both (Some u) (Some v) None xs ys p q = absurd q
appends_both (Some u) (Some v) (Some w) xs ys p q = q ∙ ap (λ t. t ++ ys) p ∙ append_assoc u xs ys

-- one more piece was sent
pub sent_more : (a b c : Option (List ℕ)) (bytes rest : List ℕ) (n : ℕ) → Sent a b bytes rest → Appends b c (take n rest) → Sent a c bytes (take (length rest - n) (drop n rest))
sent_more a b c bytes rest n s p = rw range_from (record {
  front = s.front ++ take n rest;
  is = append_assoc s.front (take n rest) (drop n rest) ∙ ap (λ t. s.front ++ t) (take-append-drop n rest) ∙ s.is;
  adds = appends_both a b c s.front (take n rest) s.adds p;
})

-- ---- what was sent of a text

-- all of it
pub sent_whole : (a b : Option (List ℕ)) (text : List ℕ) → Appends a b text → Sent a b text []
sent_whole a b text adds = record { front = text; is = append-nil text; adds = adds }

pub all_sent : (a b : Option (List ℕ)) (text : List ℕ) → Sent a b text [] → Appends a b text
all_sent a b text s = subst (λ z. Appends a b z) (sym (append-nil s.front) ∙ s.is) s.adds

-- a front of what was left of it
pub sent_both : (a b c : Option (List ℕ)) (text rest more : List ℕ) → Sent a b text rest → Sent b c rest more → Sent a c text more
sent_both a b c text rest more s t = record {
  front = s.front ++ t.front;
  is = append_assoc s.front t.front more ∙ ap (λ z. s.front ++ z) t.is ∙ s.is;
  adds = appends_both a b c s.front t.front s.adds t.adds;
}

-- more text stands behind it, all of which is left
pub sent_longer : (a b : Option (List ℕ)) (text rest more : List ℕ) → Sent a b text rest → Sent a b (text ++ more) (rest ++ more)
sent_longer a b text rest more s = record {
  front = s.front;
  is = sym (append_assoc s.front rest more) ∙ ap (λ z. z ++ more) s.is;
  adds = s.adds;
}
