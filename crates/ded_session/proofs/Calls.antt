-- What the catalogue's calls do is what the commands say.
use Rattle.std.proofs.Common.{◌≡◌, ℕ, true, sym, ap, ◌∙◌, subst, true≢false, List}
use Rattle.std.specs.Prelude.{None, Some, is_some, Result, Ok, Err, OnOk, OnErr}
use Rattle.std.specs.declared.option.Option.{Option}
use Rattle.std.specs.Option.{option_map, unwrap_or}
use Rattle.ded_model.specs.declared.command.Refusal.{Refusal}
use Rattle.ded_model.specs.declared.command.Refusal.TheVariants.{Memory}
use Rattle.ded_model.specs.declared.name.Column.{Column}
use Rattle.ded_model.specs.Catalogue.{Catalogue, Entry}
use Rattle.ded_model.specs.Catalogue as entry
use Rattle.ded_model.specs.Command.{CommandForm}
use Rattle.ded_model.specs.Known.{Known, columns_with}
use Rattle.ded_model.specs.Row.{Atom}
use Rattle.ded_sorts.specs.Causes.{is_relation_with}
use Rattle.ded_model.specs.Entries.{stored_in, relation_in}
use Rattle.ded_session.specs.Carrying.{Carries, refusal_left}
use Rattle.ded_session.specs.Replies.{ReplyForm, done, refused}
use Rattle.ded_session.specs.Steps.{Does}

-- a change that may want memory
pub did : {E : Type 0} (x : CommandForm) (c d : Catalogue) (r : Result (Unit {0}) E) (reply : ReplyForm) → refusal_left c x ≡ None
    → OnOk r (reply ≡ done) → OnErr r (reply ≡ refused Memory) → OnOk r (Does x c done d) → OnErr r (d ≡ c) → Carries x c reply d
did x c d (Ok u) reply left is wants does same = subst (λ (y : ReplyForm). Carries x c y d) (sym is) (left, does)
did x c d (Err e) reply left is wants does same =
    subst (λ (y : ReplyForm). Carries x c y d) (sym wants) (ap (λ (o : Option Refusal). unwrap_or o Memory) (sym left), same)

-- one that leaves the catalogue as it is
pub did_same : {E : Type 0} (x : CommandForm) (c d : Catalogue) (r : Result (Unit {0}) E) (reply : ReplyForm) → refusal_left c x ≡ None
    → OnOk r (reply ≡ done) → OnErr r (reply ≡ refused Memory) → Does x c done d → d ≡ c → Carries x c reply d
did_same {E} x c d (Ok u) reply left is wants does same = did {E = E} x c d (Ok u) reply left is wants does tt
did_same {E} x c d (Err e) reply left is wants does same = did {E = E} x c d (Err e) reply left is wants tt same

-- ---- what a relation stores

pub heading_there : (o : Option Known) → is_relation_with o ≡ true → option_map (λ (k : Known). k.columns) o ≡ None → ⊥
heading_there None h e = true≢false (sym h)
heading_there (Some k) h e = cc

pub columns_shown : (o : Option Known) (h : List Column) → Some h ≡ option_map (λ (k : Known). k.columns) o → h ≡ columns_with o
columns_shown None h e = absurd cc
columns_shown (Some k) h e = cc

pub list_there : (o : Option Entry) → is_some (relation_in o) ≡ true → relation_in o ≡ None → ⊥
list_there o h e = true≢false (sym h ∙ ap is_some e)

pub tuples_shown : (o : Option Entry) (ts : List (ℕ × List Atom)) → Some ts ≡ relation_in o → ts ≡ stored_in o
tuples_shown None ts e = absurd cc
tuples_shown (Some (entry.relation n h m us)) ts e = cc
tuples_shown (Some (entry.view n h f)) ts e = absurd cc
