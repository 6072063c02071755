-- Whether certificates show of all pairs of stored tuples that they are apart is decided.
use Rattle.std.proofs.Common.{◌≡◌, ◌⊎◌, inl, inr, ⊎_elim, ℕ, Bool, true, false, Option, Some, None, List, [], ◌∷◌, ◌++◌, refl, sym, ◌∙◌, true≢false}
use Rattle.std.specs.Prelude.{MatchOption}
use Rattle.std.specs.List.{AllByRecursion}
use Rattle.ded_model.specs.declared.certificate.Entry.{Entry}
use Rattle.ded_model.specs.declared.certificate.Proof.{Proof}
use Rattle.ded_model.specs.declared.certificate.Proof.TheVariants.{Text, Multipliers}
use Rattle.ded_model.specs.Catalogue.{Catalogue}
use Rattle.ded_model.specs.Command.{verify}
use Rattle.ded_model.specs.Entries.{tuples_in}
use Rattle.ded_model.specs.Known.{IsWellFormed}
use Rattle.ded_model.specs.Normal.{IsNormalTuple}
use Rattle.ded_model.specs.Row.{Atom}
use Rattle.ded_theory.specs.Both.{firsts, seconds}
use Rattle.ded_weighing.specs.Weighing.{refutes}
use Rattle.ded_cert.specs.Checks.{Checks}
use Rattle.ded_cert.specs.Pairs.{Numbered, pairs_of, entry_for, IsVerified}
use Rattle.ded_session.specs.Replies.{truth}
use Rattle.ded_progress.specs.Progress.{IsDone}
use Rattle.ded_progress.proofs.Paired.{AreTuples, named_pairs, normal_texts}
use Rattle.ded_progress.proofs.Somewhere.{texts_decided}

module _ (c : Catalogue) where
  checks_decided : (t u : List Atom) → IsNormalTuple t → IsNormalTuple u → (proof : Proof) → Checks t u proof ⊎ (Checks t u proof → ⊥)
  checks_decided t u n m Text = texts_decided c (seconds (t ++ u)) (normal_texts t u n m)
  checks_decided t u n m (Multipliers ms) = by (refutes ms (firsts (t ++ u))) refl
    where
      by : (b : Bool) → refutes ms (firsts (t ++ u)) ≡ b → (refutes ms (firsts (t ++ u)) ≡ true) ⊎ (refutes ms (firsts (t ++ u)) ≡ true → ⊥)
      by true e = inl e
      by false e = inr (λ k. true≢false (sym k ∙ e))

  pair_decided : (es : List Entry) (p : Numbered × Numbered) → AreTuples p → IsVerified es p ⊎ (IsVerified es p → ⊥)
  pair_decided es p n = by (entry_for es p.0.0 p.1.0)
    where
      by : (o : Option Entry) → MatchOption o ⊥ (λ e. Checks p.0.1 p.1.1 e.proof) ⊎ (MatchOption o ⊥ (λ e. Checks p.0.1 p.1.1 e.proof) → ⊥)
      by None = inr (λ h. h)
      by (Some e) = checks_decided p.0.1 p.1.1 n.0 n.1 e.proof

  pairs_decided : (es : List Entry) (ps : List (Numbered × Numbered)) → AllByRecursion AreTuples ps → AllByRecursion (IsVerified es) ps ⊎ (AllByRecursion (IsVerified es) ps → ⊥)
  pairs_decided es [] n = inl tt
  pairs_decided es (p ∷ ps) n = ⊎_elim
      (λ (h : IsVerified es p). ⊎_elim (λ (k : AllByRecursion (IsVerified es) ps). inl (h, k)) (λ k. inr (λ a. k a.1)) (pairs_decided es ps n.1))
      (λ h. inr (λ a. h a.0))
      (pair_decided es p n.0)

  pub verify_done : IsWellFormed c → (n m : List ℕ) (es : List Entry) → IsDone c (verify n m es)
  verify_done w n m es = ⊎_elim
      (λ (h : AllByRecursion (IsVerified es) (pairs_of (tuples_in c n) (tuples_in c m))).
      record { reply = truth true; next = c; does = ((λ t. h, λ k. refl), refl); answer = refl })
      (λ h. record { reply = truth false; next = c; does = ((λ t. absurd (true≢false (sym t)), λ k. absurd (h k)), refl); answer = refl })
      (pairs_decided es (pairs_of (tuples_in c n) (tuples_in c m)) (named_pairs c w n m))
