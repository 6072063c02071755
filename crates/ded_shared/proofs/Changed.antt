-- The names that a command changes are among those that it touches.
use Rattle.std.proofs.Common.{◌≡◌, ℕ, true, false, ◌||◌, List, Option, Some, None, refl, sym, bytes_eq, true≢false, inl, inr}
use Rattle.ded_model.specs.Catalogue.{Entry, Catalogue}
use Rattle.ded_model.specs.Catalogue as entry
use Rattle.ded_model.specs.Command.{CommandForm, relation, insert, delete, drop, view}
use Rattle.ded_model.specs.Entries.{entry_of}
use Rattle.ded_model.specs.Form.{speaks_of}
use Rattle.ded_model.specs.Known.{IsWellFormed}
use Rattle.ded_model.proofs.Members.{or_split}
use Rattle.ded_model.proofs.Rows.{or_left, or_right}
use Rattle.ded_session.specs.Replies.{ReplyForm, done, number}
use Rattle.ded_views.specs.Reaching.{reaches}
use Rattle.ded_views.proofs.Views.{used_reaches}
use Rattle.ded_shared.specs.Touching.{name_touches, touches, uses_name, changes}
use Rattle.ded_shared.proofs.NamesAlike.{spoken_touched}
use Rattle.ded_shared.proofs.Reach.{used_itself}

module _ (c : Catalogue) (n : List ℕ) where
  -- the name of the command itself
  named : (m : List ℕ) → bytes_eq m n ≡ true → (name_touches c m n || false) ≡ true
  named m e = or_left (name_touches c m n) false (or_left (bytes_eq m n) _ e)

  -- a view that is dropped
  dropped : IsWellFormed c → (m : List ℕ) (o : Option Entry) → entry_of c.entries m ≡ o → uses_name o n ≡ true → reaches c m n ≡ true
  dropped w m None e u = absurd (true≢false (sym u))
  dropped w m (Some (entry.relation j h i ts)) e u = absurd (true≢false (sym u))
  dropped w m (Some (entry.view j h f)) e u = used_reaches c w m j h f e n n u (used_itself c w m j h f e n u)

  pub changed_touched : (x : CommandForm) (reply : ReplyForm) → IsWellFormed c → changes c x reply n ≡ true → touches c x n ≡ true
  changed_touched (relation m h) done w e = or_left (name_touches c m n || false) false (named m e)
  changed_touched (insert m fs) (number k) w e = or_left (name_touches c m n || false) _ (named m e)
  changed_touched (delete m k) done w e = or_left (name_touches c m n || false) false (named m e)
  changed_touched (view m h f) done w e = elim (or_split (bytes_eq m n) (speaks_of n f) e) [
    | inl s ↦ or_left (name_touches c m n || false) _ (named m s)
    | inr s ↦ or_right (name_touches c m n || false) _ (spoken_touched c n f s)
  ]
  changed_touched (drop m) done w e = or_left (name_touches c m n || false) false (elim (or_split (bytes_eq m n) (uses_name (entry_of c.entries m) n) e) [
    | inl s ↦ named m s
    | inr s ↦ or_left (name_touches c m n) false (or_right (bytes_eq m n) _ (dropped w m (entry_of c.entries m) refl s))
  ])
  changed_touched _ _ w e = absurd (true≢false (sym e))
