-- A dump makes the remade catalogue, and there is a run of it.
use Rattle.std.proofs.Common.{◌≡◌, inl, inr, ℕ, ◌≤◌, arith, List, [], ◌∷◌, ◌++◌, length, map, refl, sym, subst}
use Rattle.ded_lex.specs.Pieces.{IsWhole, Statement, Whole}
use Rattle.ded_model.specs.declared.command.Language.{Language}
use Rattle.ded_model.specs.declared.command.Language.TheVariants.{Opening, Two}
use Rattle.ded_model.specs.Catalogue.{Catalogue}
use Rattle.ded_model.specs.Command.{CommandForm, header}
use Rattle.ded_model.specs.Known.{IsWellFormed, known_of}
use Rattle.ded_syntax.specs.Spelling.{IsHeader}
use Rattle.ded_syntax.proofs.One.{one_command}
use Rattle.ded_reread.specs.Lines.{header_text}
use Rattle.ded_session.specs.Replies.{ReplyForm, done, number, truth, tuples, stored, boxes, steps, script, apart, meeting, refused}
use Rattle.ded_session.specs.Runs.{GoesOn, Steps, Run, empty_catalogue}
use Rattle.ded_session.specs.Steps.{Does, Accepted, IsHeaderIn, Step}
use Rattle.ded_session.proofs.HeaderSteps.{header_step}
use Rattle.ded_runs.specs.Read.{WasCatalogueRead}
use Rattle.ded_runs.specs.Remade.{remade}
use Rattle.ded_runs.specs.Runs.{WantsNone}
use Rattle.ded_runs.proofs.Cutting.{AreLines, statement, dump_cut, dump_statements}
use Rattle.ded_runs.proofs.Items.{items, tail_of, AreShort}
use Rattle.ded_runs.proofs.Limits.{run_limit}
use Rattle.ded_runs.proofs.LinesBehind.{IsFront}
use Rattle.ded_runs.proofs.Readying.{Laws, ready_entries, ready_lines}
use Rattle.ded_runs.proofs.Running.{AreReady, run_entries, can_run}

-- ---- the header

module _ (c d : Catalogue) (bytes : List ℕ) (h : IsHeader bytes) where
  as_header : (reply : ReplyForm) → Accepted Opening bytes c (λ x. Does x c reply d) → Does header c reply d
  as_header reply a = subst (λ (x : CommandForm). Does x c reply d) (one_command Opening bytes a.command header a.depth 0 a.spells h).0 a.so

  header_leaves : (reply : ReplyForm) → Step Opening c (Whole bytes) reply d → d ≡ c
  header_leaves (refused r) p = p.1
  header_leaves done p = as_header done p
  header_leaves (number k) p = absurd (as_header (number k) p)
  header_leaves (truth b) p = absurd (as_header (truth b) p)
  header_leaves (tuples g ts) p = absurd (as_header (tuples g ts) p)
  header_leaves (stored g ts) p = absurd (as_header (stored g ts) p)
  header_leaves (boxes g b) p = absurd (as_header (boxes g b) p)
  header_leaves (steps plan) p = absurd (as_header (steps plan) p)
  header_leaves (script lines) p = absurd (as_header (script lines) p)
  header_leaves (apart es) p = absurd (as_header (apart es) p)
  header_leaves (meeting i j) p = absurd (as_header (meeting i j) p)

then_two : (s : Statement) (next : Language) → IsHeaderIn Opening s → GoesOn Opening s next → next ≡ Two
then_two s next h (inl g) = g.1
then_two s next h (inr g) = absurd (g.0 h)

header_short : length header_text ≤ 65536
header_short = omega arith

-- ---- all of it

module _ (laws : Laws) (is_header : IsHeader header_text) (whole_header : (after : List ℕ) → IsWhole header_text (59 ∷ after)) (c : Catalogue) (small : c.limit ≤ 1000000) (w : IsWellFormed c) (r : WasCatalogueRead c) where
  -- nothing is known at first
  all_ready : AreReady c.limit (known_of []) c.entries
  unfolding known_of
  all_ready = ready_entries laws c.limit _ c.entries w r

  module _ (front : List ℕ) (is_front : IsFront front) (text : List ℕ) (is : text ≡ header_text ++ 59 ∷ tail_of front (items c.entries)) (short : AreShort front (items c.entries)) where
    lines : AreLines (items c.entries)
    lines = ready_lines c.limit (known_of []) c.entries all_ready

    from_statements : (d : Catalogue) (others : List ReplyForm) → Steps Opening (empty_catalogue c.limit) (Whole header_text ∷ map (statement front) (items c.entries)) others d → WantsNone others → d ≡ remade c
    from_statements d [] p wants = absurd p
    from_statements d (reply ∷ others) p wants =
        let same = header_leaves (empty_catalogue c.limit) p.0 header_text is_header reply p.2 in
        let two = then_two (Whole header_text) p.1 (header_short, is_header) p.3 in
        let ss = map (statement front) (items c.entries) in
        let rest = subst (λ (l : Language). Steps l p.0 ss others d) two p.4 in
        let from = subst (λ (e : Catalogue). Steps Two e ss others d) same rest in
        run_entries c.limit front is_front small laws.level [] c.entries all_ready short others d from wants.1

    leaves : (d : Catalogue) (others : List ReplyForm) → Run c.limit text others d → WantsNone others → d ≡ remade c
    leaves d others run wants =
        let are = dump_statements front is_front whole_header text (items c.entries) is lines run.statements run.cut in
        from_statements d others (subst (λ ss. Steps Opening (empty_catalogue c.limit) ss others d) are run.steps) wants

    some_run : (others : List ReplyForm) × Run c.limit text others (remade c) × WantsNone others
    some_run =
        let can = can_run c.limit front is_front small laws.level [] c.entries all_ready short in
        let empty = empty_catalogue c.limit in
        let header_in : IsHeaderIn Opening (Whole header_text) = (header_short, is_header) in (
          done ∷ can.replies,
          record {
            statements = Whole header_text ∷ map (statement front) (items c.entries);
            cut = dump_cut front is_front whole_header text (items c.entries) is lines;
            steps = (empty, Two, header_step Opening header_text empty header_in, inl (header_in, refl), can.steps);
          },
          (tt, can.wants),
        )

-- over a catalogue to which a run leads, with the limit of that run
module _ (laws : Laws) (is_header : IsHeader header_text) (whole_header : (after : List ℕ) → IsWhole header_text (59 ∷ after)) (limit : ℕ) (script : List ℕ) (replies : List ReplyForm) (c : Catalogue) (small : limit ≤ 1000000)
    (run : Run limit script replies c) (w : IsWellFormed c) (r : WasCatalogueRead c) (front : List ℕ) (is_front : IsFront front) (text : List ℕ) (is : text ≡ header_text ++ 59 ∷ tail_of front (items c.entries)) (short : AreShort front (items c.entries)) where
  same : c.limit ≡ limit
  same = run_limit limit script replies c run

  few : c.limit ≤ 1000000
  few = subst (λ (l : ℕ). l ≤ 1000000) (sym same) small

  pub dumped : (d : Catalogue) (others : List ReplyForm) → Run limit text others d → WantsNone others → d ≡ remade c
  dumped d others again wants = leaves laws is_header whole_header c few w r front is_front text is short d others (subst (λ (l : ℕ). Run l text others d) (sym same) again) wants

  pub some_dump : (others : List ReplyForm) × Run limit text others (remade c) × WantsNone others
  some_dump = subst (λ (l : ℕ). (others : List ReplyForm) × Run l text others (remade c) × WantsNone others) same (some_run laws is_header whole_header c few w r front is_front text is short)
