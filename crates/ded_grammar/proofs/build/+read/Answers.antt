use Rattle.std.proofs.Common.{◌≡◌, ◌+◌, ◌∙◌, ◌∷◌, ◌++◌, [], sym, ap, map, length, arith}
use Rattle.std.proofs.lemmas.Result.{err_from_is_err_and}
use Rattle.std.proofs.lemmas.List.{map_push, length-map}
use Rattle.ded_model.specs.Form.{form}
use Rattle.std.specs.Prelude.{Some, max}
use Rattle.ded_grammar.specs.Forms.{terminal_form, terminal_forms}
use Rattle.ded_grammar.specs.Trees.{all_of, any_of}
use Rattle.ded_grammar.specs.Building.{◌>>=◌, chain, after_conjunct, after_disjunct, read_one, both_by}
use Rattle.ded_grammar.proofs.Levels.{whole_stop, whole_high, whole_right, one_none, body_none, whole_none, arm_not, arm_open, arm_bind, arm_leaf, arm_end, body_open, body_bind, body_end, whole_at, passes, goes, head, no_one, no_body}
use Rattle.ded_grammar.proofs.Chains.{chain_on, chain_done, chain_fails, chain_out}
use Rattle.ded_grammar.proofs.build.+read.Goals as goal

pub one-returns-then-room-eq0-clause-read : goal.one-returns-then-room-eq0-clause-read
one-returns-then-room-eq0-clause-read t c = rw c.if-room-eq0.true (one_none _)

pub body-returns-then-room-eq0-clause-read : goal.body-returns-then-room-eq0-clause-read
body-returns-then-room-eq0-clause-read t c = rw c.if-room-eq0.true (body_none _)

pub whole-returns-then-room-eq0-clause-read : goal.whole-returns-then-room-eq0-clause-read
whole-returns-then-room-eq0-clause-read t c = rw c.if-room-eq0.true (whole_none _)

pub one-returns-in_default-clause-read : goal.one-returns-in_default-clause-read
one-returns-in_default-clause-read t c = arm_end c.args.room _ c.if-room-eq0.false c.in_default.ensures.none

pub body-returns-in_default-clause-read : goal.body-returns-in_default-clause-read
body-returns-in_default-clause-read t c = body_end c.args.room _ c.if-room-eq0.false c.in_default.ensures.none

pub one-returns-in_err-part-in-Not-clause-read : goal.one-returns-in_err-part-in-Not-clause-read
one-returns-in_err-part-in-Not-clause-read t c =
    let p = err_from_is_err_and c.from_residual.result c.from_residual.ensures.1 in
    rw (p.1, p.2) (passes c.in_err-part-in-Not.field-0.0 _ _ _ (arm_not c.args.room (terminal_forms c.args.terminals.now) (terminal_forms c.in-Some.rest.now) c.if-room-eq0.false (head c.args.terminals.now c.in-Some.rest.now _ _ c.in-Some.ensures.some c.in-Not.is)) c.in_err-part-in-Not.ensures.read)

pub one-returns-in_err-part-in-Open-clause-read : goal.one-returns-in_err-part-in-Open-clause-read
one-returns-in_err-part-in-Open-clause-read t c =
    let p = err_from_is_err_and c.from_residual-in_err-part-in-Open.result c.from_residual-in_err-part-in-Open.ensures.1 in
    rw (p.1, p.2) (passes c.in_err-part-in-Open.field-0.0 _ _ _ (arm_open c.args.room (terminal_forms c.args.terminals.now) (terminal_forms c.in-Some.rest.now) c.if-room-eq0.false (head c.args.terminals.now c.in-Some.rest.now _ _ c.in-Some.ensures.some c.in-Open.is)) c.in_err-part-in-Open.ensures.read)

pub one-returns-in_err-part-in-Bind-clause-read : goal.one-returns-in_err-part-in-Bind-clause-read
one-returns-in_err-part-in-Bind-clause-read t c =
    let p = err_from_is_err_and c.from_residual-in_err-part-in-Bind.result c.from_residual-in_err-part-in-Bind.ensures.1 in
    rw (p.1, p.2) (passes c.in_err-part-in-Bind.field-0.0 _ _ _ (arm_bind c.args.room (terminal_forms c.args.terminals.now) (terminal_forms c.in-Some.rest.now) _ _ c.if-room-eq0.false (head c.args.terminals.now c.in-Some.rest.now _ _ c.in-Some.ensures.some c.in-Bind.is)) c.in_err-part-in-Bind.ensures.read)

pub one-returns-in_ok-copy-in-Atom-clause-read : goal.one-returns-in_ok-copy-in-Atom-clause-read
one-returns-in_ok-copy-in-Atom-clause-read t c = arm_leaf c.args.room (terminal_forms c.args.terminals.now) (terminal_forms c.in-Some.rest.now) (form c.in-Atom.atom) c.if-room-eq0.false (head c.args.terminals.now c.in-Some.rest.now _ _ c.in-Some.ensures.some c.in-Atom.is) ∙ ap (λ f. Some (f, 0, terminal_forms c.in-Some.rest.now)) (sym c.in_ok-copy-in-Atom.ensures)

pub one-returns-in_ok-negated-in-Not-clause-read : goal.one-returns-in_ok-negated-in-Not-clause-read
one-returns-in_ok-negated-in-Not-clause-read t c = goes _ _ _ _ (arm_not c.args.room (terminal_forms c.args.terminals.now) (terminal_forms c.in-Some.rest.now) c.if-room-eq0.false (head c.args.terminals.now c.in-Some.rest.now _ _ c.in-Some.ensures.some c.in-Not.is)) c.in_ok-part-in-Not.ensures.read
    ∙ ap (λ f. Some (f, c.in_ok-part-in-Not.nesting + 1, terminal_forms c.in_ok-part-in-Not.rest.now)) (sym c.in_ok-negated-in-Not.ensures.negated)

pub one-returns-in_ok-quantified-in-Bind-clause-read : goal.one-returns-in_ok-quantified-in-Bind-clause-read
one-returns-in_ok-quantified-in-Bind-clause-read t c = goes _ _ _ _ (arm_bind c.args.room (terminal_forms c.args.terminals.now) (terminal_forms c.in-Some.rest.now) _ _ c.if-room-eq0.false (head c.args.terminals.now c.in-Some.rest.now _ _ c.in-Some.ensures.some c.in-Bind.is)) c.in_ok-part-in-Bind.ensures.read
    ∙ ap (λ f. Some (f, c.in_ok-part-in-Bind.nesting + 1, terminal_forms c.in_ok-part-in-Bind.rest.now)) (sym c.in_ok-quantified-in-Bind.ensures.quantified)

pub one-returns-in_ok-part-in-Open-2-clause-read : goal.one-returns-in_ok-part-in-Open-2-clause-read
one-returns-in_ok-part-in-Open-2-clause-read t c = goes _ _ _ _ (goes _ _ _ _ (arm_open c.args.room (terminal_forms c.args.terminals.now) (terminal_forms c.in-Some.rest.now) c.if-room-eq0.false (head c.args.terminals.now c.in-Some.rest.now _ _ c.in-Some.ensures.some c.in-Open.is)) c.in_ok-part-in-Open.ensures.read) c.in_ok-part-in-Open-2.ensures.read

pub one-returns-in_err-part-in-Open-2-clause-read : goal.one-returns-in_err-part-in-Open-2-clause-read
one-returns-in_err-part-in-Open-2-clause-read t c =
    let p = err_from_is_err_and c.from_residual-in_err-part-in-Open-2.result c.from_residual-in_err-part-in-Open-2.ensures.1 in
    rw (p.1, p.2) (passes c.in_err-part-in-Open-2.field-0.0 _ _ _ (goes _ _ _ _ (arm_open c.args.room (terminal_forms c.args.terminals.now) (terminal_forms c.in-Some.rest.now) c.if-room-eq0.false (head c.args.terminals.now c.in-Some.rest.now _ _ c.in-Some.ensures.some c.in-Open.is)) c.in_ok-part-in-Open.ensures.read) c.in_err-part-in-Open-2.ensures.read)

pub body-returns-in_err-part-in-Open-clause-read : goal.body-returns-in_err-part-in-Open-clause-read
body-returns-in_err-part-in-Open-clause-read t c =
    let p = err_from_is_err_and c.from_residual.result c.from_residual.ensures.1 in
    rw (p.1, p.2) (passes c.in_err-part-in-Open.field-0.0 _ _ _ (body_open c.args.room (terminal_forms c.args.terminals.now) (terminal_forms c.in-Some.rest.now) c.if-room-eq0.false (head c.args.terminals.now c.in-Some.rest.now _ _ c.in-Some.ensures.some c.in-Open.is)) c.in_err-part-in-Open.ensures.read)

pub body-returns-in_err-part-in-Bind-clause-read : goal.body-returns-in_err-part-in-Bind-clause-read
body-returns-in_err-part-in-Bind-clause-read t c =
    let p = err_from_is_err_and c.from_residual-in_err-part-in-Bind.result c.from_residual-in_err-part-in-Bind.ensures.1 in
    rw (p.1, p.2) (passes c.in_err-part-in-Bind.field-0.0 _ _ _ (body_bind c.args.room (terminal_forms c.args.terminals.now) (terminal_forms c.in-Some.rest.now) _ _ c.if-room-eq0.false (head c.args.terminals.now c.in-Some.rest.now _ _ c.in-Some.ensures.some c.in-Bind.is)) c.in_err-part-in-Bind.ensures.read)

pub body-returns-in_ok-part-in-Open-clause-read : goal.body-returns-in_ok-part-in-Open-clause-read
body-returns-in_ok-part-in-Open-clause-read t c = rw (goes _ _ _ _ (body_open c.args.room (terminal_forms c.args.terminals.now) (terminal_forms c.in-Some.rest.now) c.if-room-eq0.false (head c.args.terminals.now c.in-Some.rest.now _ _ c.in-Some.ensures.some c.in-Open.is)) c.in_ok-part-in-Open.ensures.read) c.closed.ensures.read

pub body-returns-in_ok-quantified-in-Bind-clause-read : goal.body-returns-in_ok-quantified-in-Bind-clause-read
body-returns-in_ok-quantified-in-Bind-clause-read t c = goes _ _ _ _ (body_bind c.args.room (terminal_forms c.args.terminals.now) (terminal_forms c.in-Some.rest.now) _ _ c.if-room-eq0.false (head c.args.terminals.now c.in-Some.rest.now _ _ c.in-Some.ensures.some c.in-Bind.is)) c.in_ok-part-in-Bind.ensures.read
    ∙ ap (λ f. Some (f, c.in_ok-part-in-Bind.nesting + 1, terminal_forms c.in_ok-part-in-Bind.rest.now)) (sym c.in_ok-quantified-in-Bind.ensures.quantified)

pub both-returns-clause-read : goal.both-returns-clause-read
both-returns-clause-read t c = chain_out (read_one c.args.room) after_conjunct (length (terminal_forms c.args.terminals.now)) c.loop.counter c.loop.nesting (map form c.loop.parts.items) (terminal_forms c.loop.rest.now) (chain (read_one c.args.room) after_conjunct (length (terminal_forms c.args.terminals.now)) (terminal_forms c.args.terminals.now)) (λ x. Some (all_of x.0, x.1, x.2)) (omega (arith, c.loop-test.false, length-map c.args.terminals.now terminal_form)) c.loop.invariant.same

pub both-returns-in_err-part-clause-read : goal.both-returns-in_err-part-clause-read
both-returns-in_err-part-clause-read t c =
    let p = err_from_is_err_and c.from_residual.result c.from_residual.ensures.1 in
    rw (p.1, p.2) (chain_fails (read_one c.args.room) after_conjunct (length (terminal_forms c.args.terminals.now)) c.loop.counter c.loop.nesting (map form c.loop.parts.items) (terminal_forms c.loop.rest.now) (chain (read_one c.args.room) after_conjunct (length (terminal_forms c.args.terminals.now)) (terminal_forms c.args.terminals.now)) c.in_err-part.field-0.0 (λ x. Some (all_of x.0, x.1, x.2)) (omega (arith, c.loop-test.true, length-map c.args.terminals.now terminal_form)) c.in_err-part.ensures.read c.loop.invariant.same)

pub both-loop-preserved : goal.both-loop-preserved
both-loop-preserved t c =
    let e : map form c.push.new.self.items ≡ map form c.loop.parts.items ++ form c.in_ok-part.part ∷ [] = rw c.in_ok-push.ensures.items (map_push _ c.loop.parts.items c.in_ok-part.part) in
    record {
      same = rw e (chain_on (read_one c.args.room) after_conjunct (length (terminal_forms c.args.terminals.now)) c.loop.counter c.loop.nesting c.in_ok-part.inner c.max-nesting.result (map form c.loop.parts.items) (form c.in_ok-part.part) (terminal_forms c.loop.rest.now) (terminal_forms c.in_ok-part.after.now) (terminal_forms c.in-Some.more.now) (chain (read_one c.args.room) after_conjunct (length (terminal_forms c.args.terminals.now)) (terminal_forms c.args.terminals.now)) (omega (arith, c.loop-test.true, length-map c.args.terminals.now terminal_form)) c.in_ok-part.ensures.read c.in-Some.ensures c.max-nesting.ensures c.loop.invariant.same);
      low = omega (arith, c.max-nesting.ensures, c.in_ok-part.ensures.low, c.loop.invariant.low);
    }

pub both-returns-in_default-clause-read : goal.both-returns-in_default-clause-read
both-returns-in_default-clause-read t c =
    let e : map form c.push.new.self.items ≡ map form c.loop.parts.items ++ form c.in_ok-part.part ∷ [] = rw c.in_ok-push.ensures.items (map_push _ c.loop.parts.items c.in_ok-part.part) in
    ap (λ o. o >>= (λ x. Some (all_of x.0, x.1, x.2))) (chain_done (read_one c.args.room) after_conjunct (length (terminal_forms c.args.terminals.now)) c.loop.counter c.loop.nesting c.in_ok-part.inner c.max-nesting.result (map form c.loop.parts.items) (form c.in_ok-part.part) (terminal_forms c.loop.rest.now) (terminal_forms c.in_ok-part.after.now) (chain (read_one c.args.room) after_conjunct (length (terminal_forms c.args.terminals.now)) (terminal_forms c.args.terminals.now)) (omega (arith, c.loop-test.true, length-map c.args.terminals.now terminal_form)) c.in_ok-part.ensures.read c.in_default.ensures c.max-nesting.ensures c.loop.invariant.same)
    ∙ ap (λ l. Some (all_of l, c.max-nesting.result, terminal_forms c.in_ok-part.after.now)) (sym e)
    ∙ ap (λ f. Some (f, c.max-nesting.result, terminal_forms c.in_ok-part.after.now)) (sym c.all_of.ensures)

pub either-returns-clause-read : goal.either-returns-clause-read
either-returns-clause-read t c = chain_out (both_by (read_one c.args.room)) after_disjunct (length (terminal_forms c.args.terminals.now)) c.loop.counter c.loop.nesting (map form c.loop.parts.items) (terminal_forms c.loop.rest.now) (chain (both_by (read_one c.args.room)) after_disjunct (length (terminal_forms c.args.terminals.now)) (terminal_forms c.args.terminals.now)) (λ x. Some (any_of x.0, x.1, x.2)) (omega (arith, c.loop-test.false, length-map c.args.terminals.now terminal_form)) c.loop.invariant.same

pub either-returns-in_err-part-clause-read : goal.either-returns-in_err-part-clause-read
either-returns-in_err-part-clause-read t c =
    let p = err_from_is_err_and c.from_residual.result c.from_residual.ensures.1 in
    rw (p.1, p.2) (chain_fails (both_by (read_one c.args.room)) after_disjunct (length (terminal_forms c.args.terminals.now)) c.loop.counter c.loop.nesting (map form c.loop.parts.items) (terminal_forms c.loop.rest.now) (chain (both_by (read_one c.args.room)) after_disjunct (length (terminal_forms c.args.terminals.now)) (terminal_forms c.args.terminals.now)) c.in_err-part.field-0.0 (λ x. Some (any_of x.0, x.1, x.2)) (omega (arith, c.loop-test.true, length-map c.args.terminals.now terminal_form)) c.in_err-part.ensures.read c.loop.invariant.same)

pub either-loop-preserved : goal.either-loop-preserved
either-loop-preserved t c =
    let e : map form c.push.new.self.items ≡ map form c.loop.parts.items ++ form c.in_ok-part.part ∷ [] = rw c.in_ok-push.ensures.items (map_push _ c.loop.parts.items c.in_ok-part.part) in
    record {
      same = rw e (chain_on (both_by (read_one c.args.room)) after_disjunct (length (terminal_forms c.args.terminals.now)) c.loop.counter c.loop.nesting c.in_ok-part.inner c.max-nesting.result (map form c.loop.parts.items) (form c.in_ok-part.part) (terminal_forms c.loop.rest.now) (terminal_forms c.in_ok-part.after.now) (terminal_forms c.in-Some.more.now) (chain (both_by (read_one c.args.room)) after_disjunct (length (terminal_forms c.args.terminals.now)) (terminal_forms c.args.terminals.now)) (omega (arith, c.loop-test.true, length-map c.args.terminals.now terminal_form)) c.in_ok-part.ensures.read c.in-Some.ensures c.max-nesting.ensures c.loop.invariant.same);
      low = omega (arith, c.max-nesting.ensures, c.in_ok-part.ensures.low, c.loop.invariant.low);
    }

pub either-returns-in_default-clause-read : goal.either-returns-in_default-clause-read
either-returns-in_default-clause-read t c =
    let e : map form c.push.new.self.items ≡ map form c.loop.parts.items ++ form c.in_ok-part.part ∷ [] = rw c.in_ok-push.ensures.items (map_push _ c.loop.parts.items c.in_ok-part.part) in
    ap (λ o. o >>= (λ x. Some (any_of x.0, x.1, x.2))) (chain_done (both_by (read_one c.args.room)) after_disjunct (length (terminal_forms c.args.terminals.now)) c.loop.counter c.loop.nesting c.in_ok-part.inner c.max-nesting.result (map form c.loop.parts.items) (form c.in_ok-part.part) (terminal_forms c.loop.rest.now) (terminal_forms c.in_ok-part.after.now) (chain (both_by (read_one c.args.room)) after_disjunct (length (terminal_forms c.args.terminals.now)) (terminal_forms c.args.terminals.now)) (omega (arith, c.loop-test.true, length-map c.args.terminals.now terminal_form)) c.in_ok-part.ensures.read c.in_default.ensures c.max-nesting.ensures c.loop.invariant.same)
    ∙ ap (λ l. Some (any_of l, c.max-nesting.result, terminal_forms c.in_ok-part.after.now)) (sym e)
    ∙ ap (λ f. Some (f, c.max-nesting.result, terminal_forms c.in_ok-part.after.now)) (sym c.any_of.ensures)

pub whole-returns-in_err-left-clause-read : goal.whole-returns-in_err-left-clause-read
whole-returns-in_err-left-clause-read t c =
    let p = err_from_is_err_and c.from_residual.result c.from_residual.ensures.1 in
    rw (p.1, p.2) (passes c.in_err-left.field-0.0 _ _ _ (whole_at c.args.room _ c.if-room-eq0.false) c.in_err-left.ensures.read)

pub whole-returns-in_default-clause-read : goal.whole-returns-in_default-clause-read
whole-returns-in_default-clause-read t c = whole_stop c.args.room (terminal_forms c.args.terminals.now) (form c.in_ok-left.left, c.in_ok-left.outer, terminal_forms c.in_ok-left.rest.now) c.if-room-eq0.false c.in_ok-left.ensures.read c.in_default.ensures

pub whole-returns-then-outer-room-clause-read : goal.whole-returns-then-outer-room-clause-read
whole-returns-then-outer-room-clause-read t c = whole_high c.args.room (terminal_forms c.args.terminals.now) (terminal_forms c.in-Some.more.now) (form c.in_ok-left.left, c.in_ok-left.outer, terminal_forms c.in_ok-left.rest.now) c.if-room-eq0.false c.in_ok-left.ensures.read c.in-Some.ensures c.if-outer-room.true

pub whole-returns-in_err-right-clause-read : goal.whole-returns-in_err-right-clause-read
whole-returns-in_err-right-clause-read t c =
    let p = err_from_is_err_and c.from_residual-in_err-right.result c.from_residual-in_err-right.ensures.1 in
    rw (p.1, p.2) (passes c.in_err-right.field-0.0 _ _ _ (whole_right c.args.room (terminal_forms c.args.terminals.now) (terminal_forms c.in-Some.more.now) (form c.in_ok-left.left, c.in_ok-left.outer, terminal_forms c.in_ok-left.rest.now) c.if-room-eq0.false c.in_ok-left.ensures.read c.in-Some.ensures c.if-outer-room.false) c.in_err-right.ensures.read)

pub whole-returns-clause-read : goal.whole-returns-clause-read
whole-returns-clause-read t c = goes _ _ _ _ (whole_right c.args.room (terminal_forms c.args.terminals.now) (terminal_forms c.in-Some.more.now) (form c.in_ok-left.left, c.in_ok-left.outer, terminal_forms c.in_ok-left.rest.now) c.if-room-eq0.false c.in_ok-left.ensures.read c.in-Some.ensures c.if-outer-room.false) c.in_ok-right.ensures.read
    ∙ ap (λ f. Some (f, max c.in_ok-left.outer c.in_ok-right.inner + 1, terminal_forms c.in_ok-right.rest.now)) (sym c.in_ok-implied.ensures.implied)
    ∙ ap (λ n. Some (form c.in_ok-implied.field-0, n + 1, terminal_forms c.in_ok-right.rest.now)) (sym c.max.ensures)

pub one-returns-in-And-clause-read : goal.one-returns-in-And-clause-read
one-returns-in-And-clause-read t c = no_one c.args.room c.args.terminals.now c.in-Some.rest.now _ c.if-room-eq0.false c.in-Some.ensures.some c.in-And.is

pub body-returns-in-Not-clause-read : goal.body-returns-in-Not-clause-read
body-returns-in-Not-clause-read t c = no_body c.args.room c.args.terminals.now c.in-Some.rest.now _ c.if-room-eq0.false c.in-Some.ensures.some c.in-Not.is
