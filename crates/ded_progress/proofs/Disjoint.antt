-- Of two relations of which no pair of tuples is wide: certificates for all pairs, or the first pair that meets.
use Rattle.std.proofs.Common.{◌≡◌, ◌⊎◌, inl, inr, ⊎_elim, ℕ, ◌+◌, ◌*◌, ◌^◌, ◌<◌, max, nat_lt, Bool, true, false, List, [], ◌∷◌, ◌++◌, length, refl, arith}
use Rattle.std.specs.List.{AllByRecursion}
use Rattle.std.proofs.lemmas.Bool.Decides.{nat_tests}
use Rattle.ded_model.specs.declared.certificate.Entry.{Entry}
use Rattle.ded_model.specs.declared.certificate.Proof.{Proof}
use Rattle.ded_model.specs.Catalogue.{Catalogue}
use Rattle.ded_model.specs.Cell.{HoldsSomewhere}
use Rattle.ded_model.specs.Command.{disjoint}
use Rattle.ded_model.specs.Entries.{tuples_in}
use Rattle.ded_model.specs.Known.{IsWellFormed}
use Rattle.ded_model.specs.Row.{tuple_holds}
use Rattle.ded_model.specs.Width.{tuple_length, rational_slots}
use Rattle.ded_cert.specs.Certified.{HasSmallSum}
use Rattle.ded_cert.specs.Checks.{Checks}
use Rattle.ded_cert.specs.Pairs.{Numbered, pairs_of, IsEntryOf, AreEntriesOf, IsFirstMeeting, IsWide, SomePair}
use Rattle.ded_cert.proofs.Paired.{all_apart}
use Rattle.ded_session.specs.Replies.{apart, meeting}
use Rattle.ded_progress.specs.Progress.{IsDone}
use Rattle.ded_progress.proofs.Certifying.{told}
use Rattle.ded_progress.proofs.Paired.{AreTuples, named_pairs}

-- ---- wide pairs

less_decided : (m n : ℕ) → (m < n) ⊎ (m < n → ⊥)
less_decided m n = by (nat_lt m n) refl
  where
    by : (b : Bool) → nat_lt m n ≡ b → (m < n) ⊎ (m < n → ⊥)
    by true e = inl (yes_less e)
      where
        yes_less : nat_lt m n ≡ true → m < n
        yes_less k = grind (arith, nat_tests)
    by false e = inr (λ l. not_less e l)
      where
        not_less : nat_lt m n ≡ false → m < n → ⊥
        not_less k l = grind (arith, nat_tests)

pub wide_decided : (ps : List (Numbered × Numbered)) → SomePair IsWide ps ⊎ (SomePair IsWide ps → ⊥)
wide_decided [] = inr (λ h. h)
wide_decided (p ∷ ps) = by (less_decided 128 ((max 1 (tuple_length (p.0.1 ++ p.1.1)) + 1) * 2 ^ (length (rational_slots (p.0.1 ++ p.1.1)) + 1))) (wide_decided ps)
  where
    by : IsWide p ⊎ (IsWide p → ⊥) → SomePair IsWide ps ⊎ (SomePair IsWide ps → ⊥) → SomePair IsWide (p ∷ ps) ⊎ (SomePair IsWide (p ∷ ps) → ⊥)
    by (inl h) k = inl (inl h)
    by (inr h) (inl k) = inl (inr k)
    by (inr h) (inr k) = inr (λ s. ⊎_elim h k s)

-- ---- all pairs

-- certificates for all pairs, or the numbers of the first one that meets
abbrev pub AreTold : List (Numbered × Numbered) → Type 0
AreTold ps = ((es : List Entry) × AreEntriesOf ps es) ⊎ ((i : ℕ) × (j : ℕ) × IsFirstMeeting ps i j)

-- a certificate of the pair
abbrev HasProof : Numbered × Numbered → Type 0
HasProof p = (proof : Proof) × Checks p.0.1 p.1.1 proof × HasSmallSum proof

abbrev entry_of : (p : Numbered × Numbered) → HasProof p → Entry
entry_of p k = record { first = p.0.0; second = p.1.0; proof = k.0 }

is_entry : (p : Numbered × Numbered) (k : HasProof p) → IsEntryOf p (entry_of p k)
is_entry p k = record { first = refl; second = refl; checks = k.1; small = k.2 }

module _ (c : Catalogue) where
  all_told : (ps : List (Numbered × Numbered)) → AllByRecursion AreTuples ps → (SomePair IsWide ps → ⊥) → AreTold ps
  all_told [] n narrow = inl ([], tt)
  all_told (p ∷ ps) n narrow = by (told c p.0.1 p.1.1 n.0.0 n.0.1 (λ h. narrow (inl h))) (all_told ps n.1 (λ h. narrow (inr h)))
    where
      by : HoldsSomewhere (tuple_holds (p.0.1 ++ p.1.1)) ⊎ ((proof : Proof) × Checks p.0.1 p.1.1 proof × HasSmallSum proof) → AreTold ps → AreTold (p ∷ ps)
      by (inl h) rest = inr (p.0.0, p.1.0, inl (refl, refl, h))
      by (inr k) (inl rest) =
          inl (entry_of p k ∷ rest.0, (is_entry p k, rest.1))
      by (inr k) (inr rest) = inr (rest.0, rest.1, inr ((all_apart (p ∷ []) (entry_of p k ∷ []) (is_entry p k, tt)).0, rest.2))

  pub disjoint_done : IsWellFormed c → (n m : List ℕ) → (SomePair IsWide (pairs_of (tuples_in c n) (tuples_in c m)) → ⊥) → IsDone c (disjoint n m)
  disjoint_done w n m narrow = ⊎_elim
      (λ (a : (es : List Entry) × AreEntriesOf (pairs_of (tuples_in c n) (tuples_in c m)) es). record { reply = apart a.0; next = c; does = (a.1, refl); answer = refl })
      (λ b. record { reply = meeting b.0 b.1; next = c; does = (b.2, refl); answer = refl })
      (all_told (pairs_of (tuples_in c n) (tuples_in c m)) (named_pairs c w n m) narrow)
