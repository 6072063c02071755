-- What an open transaction has done, over each catalogue that agrees with the one at its begin on what it touched.
use Rattle.std.proofs.Common.{◌≡◌, ℕ, Bool, true, not, ◌&&◌, ◌||◌, List, [], ◌∷◌, ◌++◌, refl, sym, ap, ◌∙◌, subst}
use Rattle.ded_lex.specs.Pieces.{Whole}
use Rattle.ded_model.specs.declared.command.Language.TheVariants.{One}
use Rattle.ded_model.specs.Catalogue.{Catalogue}
use Rattle.ded_model.specs.Command.{CommandForm}
use Rattle.ded_model.specs.Known.{IsWellFormed}
use Rattle.ded_syntax.specs.Spelling.{Spells}
use Rattle.ded_shared.specs.Agreeing.{Agree}
use Rattle.ded_shared.specs.Touching.{touches, changes, depends_on_names}
use Rattle.ded_shared.proofs.Kept.{step_keeps}
use Rattle.ded_shared.proofs.Replaced.{agree_itself}
use Rattle.ded_shared.proofs.Replying.{reply_over}
use Rattle.ded_session.specs.Replies.{ReplyForm}
use Rattle.ded_session.specs.Steps.{Step}
use Rattle.ded_shared.specs.Events.{Told}
use Rattle.ded_shared.specs.Rules.{Remembers, WorksInside, IsCommitted, Replays}
use Rattle.ded_shared.specs.Serial.{AreSteps}
use Rattle.ded_shared.specs.State.{Transaction, State, is_among, begun_over, with_stale}
use Rattle.ded_shared.specs.Tags.{SpellsCommand}
use Rattle.ded_shared.proofs.Agreements.{first_of, second_of, neither, agree_then, agree_outside, agree_touched}
use Rattle.ded_shared.proofs.Replaying.{told, steps_one, steps_join, KeepsFormed, one_replay, replays_more, same_changes}

-- Over the catalogue the statements get their replies; the accepted changes alone make the same catalogue, which agrees with
-- the transaction's own, and has only what was changed otherwise than before.
pub record Goes (own : Catalogue) (accepted changed : List (List ℕ)) (ts : List Told) (among : List ℕ → Bool) (d : Catalogue) : Type 0 where
  pub last : Catalogue
  pub steps : AreSteps d ts last
  pub replays : Replays accepted d last
  pub formed : IsWellFormed last
  pub agree : Agree own last among
  pub left : Agree d last (λ n. not (is_among changed n))

-- The transaction has these statements, and c is the shared catalogue now: with the catalogue at its begin this agrees on what
-- isn't stale.
pub record Follows (x : Transaction) (ts : List Told) (c : Catalogue) : Type 0 where
  pub start : Catalogue
  pub formed : IsWellFormed x.own
  pub fresh : Agree start c (λ n. not (is_among x.stale n))
  pub over : (among : List ℕ → Bool) (d : Catalogue) → IsWellFormed d → Agree start d among → ((n : List ℕ) → is_among x.touched n ≡ true → among n ≡ true)
      → Goes x.own x.accepted x.changed ts among d

-- ---- begins, and what others change

pub begun_follows : (c : Catalogue) → IsWellFormed c → Follows (begun_over c) [] c
begun_follows c w = record {
  start = c;
  formed = w;
  fresh = agree_itself c _;
  over = λ among d v a within. record { last = d; steps = refl; replays = refl; formed = v; agree = a; left = agree_itself d _ };
}

pub grown_follows : (x : Transaction) (ts : List Told) (c d : Catalogue) (names : List (List ℕ)) → Follows x ts c → Agree c d (λ n. not (is_among names n)) → Follows (with_stale names x) ts d
grown_follows x ts c d names f a = record { start = f.start; formed = f.formed; fresh = agree_outside f.start c d x.stale names f.fresh a; over = f.over }

-- ---- one statement more

module _ (keeps : KeepsFormed) (x y : Transaction) (bytes : List ℕ) (reply : ReplyForm) (w : IsWellFormed x.own) (step : Step One x.own (Whole bytes) reply y.own)
    (command : CommandForm) (depth : ℕ) (spells : Spells One bytes command depth)
    (remembers : (z : CommandForm) (i : ℕ) → Spells One bytes z i → Remembers bytes reply z x y) where
  goes_more : (ts : List Told) (among : List ℕ → Bool) (d : Catalogue) → ((n : List ℕ) → is_among y.touched n ≡ true → among n ≡ true)
      → Goes x.own x.accepted x.changed ts among d → Goes y.own y.accepted y.changed (ts ++ told bytes reply ∷ []) among d
  goes_more ts among d within g =
      let touched : (z : CommandForm) (i : ℕ) → Spells One bytes z i → (n : List ℕ) → (depends_on_names reply && touches x.own z n) ≡ true → among n ≡ true
      = (λ z i s n h. within n ((remembers z i s).touched n ∙ second_of (is_among x.touched n) _ _ h)) in
      let r = reply_over x.own g.last w g.formed among g.agree bytes y.own reply touched step in
      record {
        last = r.0;
        steps = steps_join ts (told bytes reply ∷ []) d g.last r.0 g.steps (steps_one g.last r.0 (told bytes reply) r.1);
        replays = replays_more bytes command depth reply spells x.accepted y.accepted (remembers command depth spells).accepted d g.last r.0 g.replays r.1;
        formed = keeps One g.last r.0 (Whole bytes) reply g.formed r.1;
        agree = r.2;
        left = agree_then d g.last r.0 (λ n. not (is_among x.changed n)) (λ n. not (changes g.last command reply n)) (λ n. not (is_among y.changed n))
            g.left (step_keeps g.last r.0 g.formed bytes command depth spells reply r.1)
            (λ n h. neither (is_among x.changed n) (changes g.last command reply n) (is_among y.changed n)
            ((remembers command depth spells).changed n ∙ ap (λ b. is_among x.changed n || b) (sym (same_changes x.own g.last among command reply n g.agree (touched command depth spells)))) h);
      }

  follows_more : (ts : List Told) (c : Catalogue) → Follows x ts c → Follows y (ts ++ told bytes reply ∷ []) c
  follows_more ts c f = record {
    start = f.start;
    formed = keeps One x.own y.own (Whole bytes) reply w step;
    fresh = subst (λ ns. Agree f.start c (λ n. not (is_among ns n))) (sym (remembers command depth spells).stale) f.fresh;
    over = λ among d v a within. goes_more ts among d within
        (f.over among d v a (λ n h. within n ((remembers command depth spells).touched n ∙ first_of (is_among x.touched n) _ _ h)));
  }

pub inside_follows : KeepsFormed → (k : ℕ) (bytes : List ℕ) (x : Transaction) (s t : State) (reply : ReplyForm) (ts : List Told) (c : Catalogue) → SpellsCommand bytes
    → (p : WorksInside k bytes x s reply t) → Follows x ts c → Follows p.after (ts ++ told bytes reply ∷ []) c
inside_follows keeps k bytes x s t reply ts c spells p f = follows_more keeps x p.after bytes reply f.formed p.step spells.command spells.depth spells.spells p.remembers ts c f

-- ---- commits

-- a commit that finds no conflict
pub record Lands (x : Transaction) (ts : List Told) (c d : Catalogue) : Type 0 where
  pub steps : AreSteps c ts d
  pub formed : IsWellFormed d
  pub left : Agree c d (λ n. not (is_among x.changed n))

pub committed_lands : KeepsFormed → (k : ℕ) (x : Transaction) (ts : List Told) (s t : State) → IsWellFormed s.shared → Follows x ts s.shared → IsCommitted k x s t → Lands x ts s.shared t.shared
committed_lands keeps k x ts s t w f p =
    let g = f.over (is_among x.touched) s.shared w (agree_touched f.start s.shared x.touched x.stale p.none f.fresh) (λ n h. h) in
    let same : t.shared ≡ g.last = one_replay keeps x.accepted s.shared t.shared g.last w p.replays g.replays in
    record {
      steps = subst (λ d. AreSteps s.shared ts d) (sym same) g.steps;
      formed = subst IsWellFormed (sym same) g.formed;
      left = subst (λ d. Agree s.shared d (λ n. not (is_among x.changed n))) (sym same) g.left;
    }
