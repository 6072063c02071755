use Rattle.std.proofs.Common.{◌≡◌, ◌∙◌, Some, None, sym, rules}
use Rattle.ded_shared.specs.Answered.{shared_form}
use Rattle.ded_shared.specs.Parts.{state_of}
use Rattle.ded_shared.specs.declared.tag.Verb.TheVariants.{Begin, Commit, Abort}
use Rattle.ded_shared.proofs.Refusing.{begun_tagged, committed_tagged, aborted_tagged}
use Rattle.ded_shared.proofs.Verbing.{none_is}
use Rattle.ded_shared.proofs.shared.Shared.step_tagged.Goals as goal

pub returns-in-Some-Begin : goal.returns-in-Some-Begin
returns-in-Some-Begin c =
    let verb : c.verb_of.result ≡ Some Begin = search rules in
    λ bytes short tag. begun_tagged c.args.tag.session c.args.tag.rest.now (state_of c.args.self.now) (state_of c.begin.new.self) bytes short tag ((c.verb_of.ensures c.args.tag.rest.now c.requires.tokens Begin).0 verb) (shared_form c.begin.result) c.begin.ensures

pub returns-in-Some-Commit : goal.returns-in-Some-Commit
returns-in-Some-Commit c =
    let verb : c.verb_of.result ≡ Some Commit = search rules in
    λ bytes short tag. committed_tagged c.args.tag.session c.args.tag.rest.now (state_of c.args.self.now) (state_of c.commit.new.self) bytes short tag ((c.verb_of.ensures c.args.tag.rest.now c.requires.tokens Commit).0 verb) (shared_form c.commit.result) c.commit.ensures.answered

pub returns-in-Some-Abort : goal.returns-in-Some-Abort
returns-in-Some-Abort c =
    let verb : c.verb_of.result ≡ Some Abort = search rules in
    λ bytes short tag. aborted_tagged c.args.tag.session c.args.tag.rest.now (state_of c.args.self.now) (state_of c.abort.new.self) bytes short tag ((c.verb_of.ensures c.args.tag.rest.now c.requires.tokens Abort).0 verb) (shared_form c.abort.result) c.abort.ensures

pub command-requires-clause-no_word : goal.command-requires-clause-no_word
command-requires-clause-no_word c =
    let none : c.verb_of.result ≡ None = search rules in
    λ verb word. absurd (none_is (sym none ∙ (c.verb_of.ensures c.args.tag.rest.now c.requires.tokens verb).1 word))
