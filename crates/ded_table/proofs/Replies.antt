-- Replies as tables, and that the tuples of a reply are over its columns.
use Rattle.std.proofs.Common.{◌≡◌, ℕ, true, false, Option, Some, None, List, refl, sym, subst, true≢false, inl, inr}
use Rattle.std.specs.List.{AllByRecursion}
use Rattle.ded_dialogue.specs.Replies.{Said}
use Rattle.ded_dialogue.specs.Runs.{StandsFor}
use Rattle.ded_lex.specs.declared.piece.Piece.{Piece}
use Rattle.ded_lex.specs.declared.piece.Piece.TheVariants as piece
use Rattle.ded_lex.specs.Pieces.{Statement, Whole}
use Rattle.ded_model.specs.declared.command.Language.{Language}
use Rattle.ded_model.specs.declared.command.Refusal.TheVariants.{Memory}
use Rattle.ded_model.specs.declared.name.Column.{Column}
use Rattle.ded_model.specs.Catalogue.{Catalogue, Entry, tuples_of}
use Rattle.ded_model.specs.Catalogue as entry
use Rattle.ded_model.specs.Command.{CommandForm, header, relation, insert, delete, drop, view, keep, ask, query, show, box_of, explain, dump, disjoint, verify}
use Rattle.ded_model.specs.Entries.{entry_of, relation_in, stored_in, tuples_in, columns_in}
use Rattle.ded_model.specs.Known.{IsTupleOver, IsWellFormed}
use Rattle.ded_model.specs.Row.{Atom}
use Rattle.ded_run.specs.OneSession.{Standing, said_of}
use Rattle.ded_run.proofs.Steps.{answers_step}
use Rattle.ded_session.specs.Pieces.{StepsPiece, GoesOnPiece}
use Rattle.ded_session.specs.Replies.{ReplyForm, done, number, truth, tuples, stored, boxes, steps, script, apart, meeting, refused}
use Rattle.ded_session.specs.Steps.{Does, Step}
use Rattle.ded_session.proofs.Bounding.{relation_over}
use Rattle.ded_table.specs.Tabled.{has_tuples, IsOver, IsTabled, IsTableOf, MayTable}

-- ---- what is written of a reply

pub plain_tabled : (r : ReplyForm) → false ≡ has_tuples r → IsTabled r (said_of r)
plain_tabled done e = refl
plain_tabled (number k) e = refl
plain_tabled (truth b) e = refl
plain_tabled (tuples h ts) e = absurd (true≢false (sym e))
plain_tabled (stored h ts) e = absurd (true≢false (sym e))
plain_tabled (boxes h b) e = refl
plain_tabled (steps p) e = refl
plain_tabled (script ls) e = refl
plain_tabled (apart es) e = refl
plain_tabled (meeting i j) e = refl
plain_tabled (refused r) e = refl

pub none_tabled : (r : ReplyForm) → true ≡ has_tuples r → IsTabled r (said_of (refused Memory))
none_tabled done e = absurd (true≢false e)
none_tabled (number k) e = absurd (true≢false e)
none_tabled (truth b) e = absurd (true≢false e)
none_tabled (tuples h ts) e = inr refl
none_tabled (stored h ts) e = inr refl
none_tabled (boxes h b) e = absurd (true≢false e)
none_tabled (steps p) e = absurd (true≢false e)
none_tabled (script ls) e = absurd (true≢false e)
none_tabled (apart es) e = absurd (true≢false e)
none_tabled (meeting i j) e = absurd (true≢false e)
none_tabled (refused r) e = absurd (true≢false e)

pub text_tabled : (r : ReplyForm) (text : List ℕ) → IsTableOf r text → IsTabled r (record { text = text; refuses = false })
text_tabled done text h = absurd h
text_tabled (number k) text h = absurd h
text_tabled (truth b) text h = absurd h
text_tabled (tuples k ts) text h = inl (h, refl)
text_tabled (stored k ts) text h = inl (h, refl)
text_tabled (boxes k b) text h = absurd h
text_tabled (steps p) text h = absurd h
text_tabled (script ls) text h = absurd h
text_tabled (apart es) text h = absurd h
text_tabled (meeting i j) text h = absurd h
text_tabled (refused r) text h = absurd h

-- ---- tuples are over their columns

-- those of a relation; a view and a name without entry have none
relation_tuples : (c : Catalogue) (n : List ℕ) → IsWellFormed c → AllByRecursion (IsTupleOver (columns_in c n)) (tuples_of (tuples_in c n))
relation_tuples c n formed = by (entry_of c.entries n) refl
  where
    at : (o : Option Entry) → entry_of c.entries n ≡ o → AllByRecursion (IsTupleOver (columns_in c n)) (tuples_of (stored_in o)) → AllByRecursion (IsTupleOver (columns_in c n)) (tuples_of (tuples_in c n))
    at o e h = subst (λ (p : Option Entry). AllByRecursion (IsTupleOver (columns_in c n)) (tuples_of (stored_in p))) (sym e) h

    by : (o : Option Entry) → entry_of c.entries n ≡ o → AllByRecursion (IsTupleOver (columns_in c n)) (tuples_of (tuples_in c n))
    by None e = at None e tt
    by (Some (entry.view m h f)) e = at (Some (entry.view m h f)) e tt
    by (Some (entry.relation m h i ts)) e =
        at (Some (entry.relation m h i ts)) e (relation_over c n (columns_in c n) ts formed refl
        (subst (λ (p : Option Entry). Some ts ≡ relation_in p) (sym e) refl))

module _ (c d : Catalogue) (formed : IsWellFormed c) where
  answered : (x : CommandForm) (h : List Column) (ts : List (List Atom)) → Does x c (tuples h ts) d → AllByRecursion (IsTupleOver h) ts
  answered header h ts k = absurd k
  answered (relation n g) h ts k = absurd k
  answered (insert n fs) h ts k = absurd k
  answered (delete n i) h ts k = absurd k
  answered (drop n) h ts k = absurd k
  answered (view n g f) h ts k = absurd k
  answered (keep n) h ts k = absurd k
  answered (ask f) h ts k = absurd k
  answered (query g f) h ts k = subst (λ (j : List Column). AllByRecursion (IsTupleOver j) ts) (sym k.0) k.1.over
  answered (show n) h ts k = absurd k
  answered (box_of n) h ts k = absurd k
  answered (explain g f) h ts k = absurd k
  answered dump h ts k = absurd k
  answered (disjoint n m) h ts k = absurd k
  answered (verify n m es) h ts k = absurd k

  shown : (x : CommandForm) (h : List Column) (ts : List (ℕ × List Atom)) → Does x c (stored h ts) d → AllByRecursion (IsTupleOver h) (tuples_of ts)
  shown header h ts k = absurd k
  shown (relation n g) h ts k = absurd k
  shown (insert n fs) h ts k = absurd k
  shown (delete n i) h ts k = absurd k
  shown (drop n) h ts k = absurd k
  shown (view n g f) h ts k = absurd k
  shown (keep n) h ts k = absurd k
  shown (ask f) h ts k = absurd k
  shown (query g f) h ts k = absurd k
  shown (show n) h ts k =
      subst (λ (us : List (ℕ × List Atom)). AllByRecursion (IsTupleOver h) (tuples_of us)) (sym k.1)
      (subst (λ (j : List Column). AllByRecursion (IsTupleOver j) (tuples_of (tuples_in c n))) (sym k.0) (relation_tuples c n formed))
  shown (box_of n) h ts k = absurd k
  shown (explain g f) h ts k = absurd k
  shown dump h ts k = absurd k
  shown (disjoint n m) h ts k = absurd k
  shown (verify n m es) h ts k = absurd k

  whole_over : (language : Language) (bytes : List ℕ) (r : ReplyForm) → Step language c (Whole bytes) r d → IsOver r
  whole_over language bytes done k = tt
  whole_over language bytes (number i) k = tt
  whole_over language bytes (truth b) k = tt
  whole_over language bytes (tuples h ts) k = answered k.command h ts k.so
  whole_over language bytes (stored h ts) k = shown k.command h ts k.so
  whole_over language bytes (boxes h b) k = tt
  whole_over language bytes (steps p) k = tt
  whole_over language bytes (script ls) k = tt
  whole_over language bytes (apart es) k = tt
  whole_over language bytes (meeting i j) k = tt
  whole_over language bytes (refused q) k = tt

  pub reply_over : (p : Piece) (language : Language) (r : ReplyForm) → StepsPiece p language c r d → IsOver r
  reply_over (piece.Whole bytes) language r k = whole_over language bytes.now r k
  reply_over piece.Long language r k = subst IsOver (sym k.0) tt
  reply_over piece.Cut language r k = subst IsOver (sym k.0) tt

-- ---- what is answered

pub tables_piece : (p : Piece) (m n : Standing) (r : ReplyForm) (said : Said) → StepsPiece p m.language m.catalogue r n.catalogue → GoesOnPiece m.language p n.language → IsTabled r said
    → (s : Statement) → StandsFor p s → MayTable m s said n
tables_piece p m n r said step goes tabled s is = record { reply = r; step = answers_step p m n r step goes s is; is = tabled }
