-- A statement may get its reply over each catalogue that agrees on the names that it touches.
use Rattle.std.proofs.Common.{◌≡◌, ℕ, Bool, true, ◌&&◌, List, [], arith, refl, sym, subst}
use Rattle.std.specs.List.{AllByRecursion}
use Rattle.std.proofs.lemmas.Bool.{false_from_ne_true}
use Rattle.ded_cert.specs.Pairs.{IsLongCheck, IsWide, SomePair}
use Rattle.ded_atoms.specs.Orders.{AreOrderAtoms}
use Rattle.ded_lex.specs.Pieces.{Whole}
use Rattle.ded_model.specs.declared.command.Language.TheVariants.{One}
use Rattle.ded_model.specs.declared.command.Refusal.{Refusal}
use Rattle.ded_model.specs.declared.command.Refusal.TheVariants.{LongStatement, Unfinished, Syntax, LongName, LongNumber, Deep, Many, Twice, Unknown, Taken, Kind, Arity, Unbound, WrongSort, Used, NoTuple, Full, Spent, Level, Wide, Memory}
use Rattle.ded_model.specs.Catalogue.{Catalogue, tuples_of}
use Rattle.ded_model.specs.Command.{CommandForm, ask, query, box_of, disjoint, verify}
use Rattle.ded_model.specs.Entries.{tuples_in, columns_in}
use Rattle.ded_model.specs.Known.{IsWellFormed}
use Rattle.ded_model.specs.Width.{IsBoxNarrow}
use Rattle.ded_sorts.specs.Causes.{takes_name, has_cause}
use Rattle.ded_syntax.specs.Spelling.{Spells}
use Rattle.ded_session.specs.Causes.{Commands, Applies, IsLeast, NoneApplies}
use Rattle.ded_session.specs.Replies.{ReplyForm, done, number, truth, tuples, stored, boxes, steps, script, apart, meeting, refused}
use Rattle.ded_session.specs.Steps.{Does, MayBeWide, Accepted, MayRefuse, Step}
use Rattle.ded_shared.specs.Agreeing.{Agree}
use Rattle.ded_shared.specs.Touching.{touches, depends_on_names}
use Rattle.ded_shared.proofs.Applying.{applies_over, least_by_bytes}
use Rattle.ded_shared.proofs.CausesAlike.{cause_alike}
use Rattle.ded_shared.proofs.Doing.{does_over}
use Rattle.ded_shared.proofs.NamesAlike.{Covers, AreAlike, columns_alike, tuples_alike, pairs_alike, covered, touched_alike}
use Rattle.ded_shared.proofs.NoDumps.{no_dump}
use Rattle.ded_shared.proofs.QuestionsAlike.{tight_back}

-- ---- numbers that may be too long

module _ (c d : Catalogue) (names : List ℕ → Bool) (s : AreAlike c d names) where
  wide_over : (x : CommandForm) → Covers names x → MayBeWide x c → MayBeWide x d
  wide_over (ask f) p k = λ t. k (tight_back c d names s [] f (p.spoken f refl) t)
  wide_over (query h f) p k = λ t. k (tight_back c d names s h f (p.spoken f refl) t)
  wide_over (box_of n) p k = (
    subst (λ us. IsBoxNarrow (columns_in d n) (tuples_of us) → ⊥) (tuples_alike c d names s n p.beside.0) (subst (λ h. IsBoxNarrow h (tuples_of (tuples_in c n)) → ⊥) (columns_alike c d names s n p.beside.0) k.0),
    subst (λ us. AllByRecursion AreOrderAtoms (tuples_of us) → ⊥) (tuples_alike c d names s n p.beside.0) k.1,
  )
  wide_over (disjoint n m) p k = subst (SomePair IsWide) (pairs_alike c d names s n m p.beside.0 p.beside.1.0) k
  wide_over (verify n m es) p k = subst (SomePair (IsLongCheck es)) (pairs_alike c d names s n m p.beside.0 p.beside.1.0) k
  wide_over _ p k = absurd k

-- ---- statements

module _ (c d : Catalogue) (w : IsWellFormed c) (v : IsWellFormed d) (among : List ℕ → Bool) (a : Agree c d among) (bytes : List ℕ) where
  -- the names are among these that the command touches which the bytes spell, where the reply depends on names
  abbrev Within : Bool → Type 0
  Within depends = (x : CommandForm) (depth : ℕ) → Spells One bytes x depth → (n : List ℕ) → (depends && touches c x n) ≡ true → among n ≡ true

  module _ (x : CommandForm) (depth : ℕ) (spells : Spells One bytes x depth) (i : (n : List ℕ) → touches c x n ≡ true → among n ≡ true) where
    alike : AreAlike c d (touches c x)
    alike = touched_alike c d among x w v a i

    same : (r : Refusal) → has_cause r d x ≡ has_cause r c x
    same r = cause_alike c d (touches c x) alike r x (covered c x)

    over : (q : Refusal) → Applies q One (Whole bytes) c → Applies q One (Whole bytes) d
    over = applies_over bytes x depth spells c d same

    back : (q : Refusal) → Applies q One (Whole bytes) d → Applies q One (Whole bytes) c
    back = applies_over bytes x depth spells d c (λ r. sym (same r))

    least_over : (r : Refusal) → IsLeast r One (Whole bytes) c → IsLeast r One (Whole bytes) d
    least_over r h = record { applies = over r h.applies; least = λ q less y. h.least q less (back q y) }

    none_over : NoneApplies One (Whole bytes) c → NoneApplies One (Whole bytes) d
    none_over h = λ q y. h q (back q y)

  named : (r : Refusal) → Commands One bytes r c → Within true → IsLeast r One (Whole bytes) c → IsLeast r One (Whole bytes) d
  named r k i h = least_over k.command k.depth k.spells (i k.command k.depth k.spells) r h

  wide : Within true → Accepted One bytes c (λ x. MayBeWide x c) → Accepted One bytes d (λ x. MayBeWide x d)
  wide i p =
      let within = i p.command p.depth p.spells in
      record {
        none = none_over p.command p.depth p.spells within p.none;
        command = p.command;
        depth = p.depth;
        spells = p.spells;
        so = wide_over c d (touches c p.command) (alike p.command p.depth p.spells within) p.command (covered c p.command) p.so;
      }

  refuse_over : (r : Refusal) → Within (depends_on_names (refused r)) → MayRefuse r One (Whole bytes) c → MayRefuse r One (Whole bytes) d
  refuse_over LongStatement i k = least_by_bytes bytes c d LongStatement (omega arith) k
  refuse_over Unfinished i k = least_by_bytes bytes c d Unfinished (omega arith) k
  refuse_over Syntax i k = least_by_bytes bytes c d Syntax (omega arith) k
  refuse_over LongName i k = least_by_bytes bytes c d LongName (omega arith) k
  refuse_over LongNumber i k = least_by_bytes bytes c d LongNumber (omega arith) k
  refuse_over Deep i k = least_by_bytes bytes c d Deep (omega arith) k
  refuse_over Many i k = named Many k.applies i k
  refuse_over Twice i k = named Twice k.applies i k
  refuse_over Unknown i k = named Unknown k.applies i k
  refuse_over Taken i k = named Taken k.applies i k
  refuse_over Kind i k = named Kind k.applies i k
  refuse_over Arity i k = named Arity k.applies i k
  refuse_over Unbound i k = named Unbound k.applies i k
  refuse_over WrongSort i k = named WrongSort k.applies i k
  refuse_over Used i k = named Used k.applies i k
  refuse_over NoTuple i k = named NoTuple k.applies i k
  refuse_over Full i k = named Full k.applies i k
  refuse_over Spent i k = named Spent k.applies i k
  refuse_over Level i k = named Level k.applies i k
  refuse_over Wide i k = wide i k
  refuse_over Memory i k = k

  -- ---- replies

  module _ (e : Catalogue) where
    abbrev Ends : ReplyForm → Type 0
    Ends reply = (f : Catalogue) × Step One d (Whole bytes) reply f × Agree e f among

    answered : (reply : ReplyForm) → Within true → Accepted One bytes c (λ x. Does x c reply e) → (f : Catalogue) × Accepted One bytes d (λ x. Does x d reply f) × Agree e f among
    answered reply i p =
        let x = p.command in
        let within = i x p.depth p.spells in
        let new = false_from_ne_true (takes_name c x) (λ t. p.none Taken (record { command = x; depth = p.depth; spells = p.spells; cause = t })) in
        let r = does_over c d w v among a e (touches c x) (alike x p.depth p.spells within) x reply (covered c x) new
        (λ is. no_dump bytes p.depth (subst (λ y. Spells One bytes y p.depth) is p.spells)) p.so in
        (r.0, record { none = none_over x p.depth p.spells within p.none; command = x; depth = p.depth; spells = p.spells; so = r.1 }, r.2)

    pub reply_over : (reply : ReplyForm) → Within (depends_on_names reply) → Step One c (Whole bytes) reply e → Ends reply
    reply_over done i p = answered done i p
    reply_over (number k) i p = answered (number k) i p
    reply_over (truth b) i p = answered (truth b) i p
    reply_over (tuples h ts) i p = answered (tuples h ts) i p
    reply_over (stored h ts) i p = answered (stored h ts) i p
    reply_over (boxes h b) i p = answered (boxes h b) i p
    reply_over (steps plan) i p = answered (steps plan) i p
    reply_over (script lines) i p = answered (script lines) i p
    reply_over (apart es) i p = answered (apart es) i p
    reply_over (meeting j k) i p = answered (meeting j k) i p
    reply_over (refused r) i p = (d, (refuse_over r i p.0, refl), subst (λ y. Agree y d among) (sym p.1) a)
