-- What showing in parts comes to.
use mathlib.Core.Path.{◌≡◌, sym, ap, ◌∙◌, refl}
use Prim.Native.Nat.{ℕ}
use mathlib.Core.List.{List, [], ◌++◌}
use Rattle.rules.specs.Screen.{shown_all, column_after_all}
use Rattle.areas.specs.declared.Writer.{Writer}
use Rattle.areas.proofs.Putting as put
use Rattle.screen.specs.View.{Shows, screen_view}
use Rattle.screen.specs.declared.Screen.{Screen}
use Rattle.screen.proofs.Echoes.{shown_all_append, shown_all-column}

module _ {old : Screen} {before : Writer} where
  -- nothing was written
  pub nothing : Shows [] old old before before
  unfolding shown_all
  nothing = record { writes = put.nothing; screen = refl }

  pub equals : {xs ys : List ℕ} {new : Screen} {after : Writer} → xs ≡ ys → Shows xs old new before after → Shows ys old new before after
  equals e w = rw e at w

  -- some bytes, and then more
  pub joins : {xs ys : List ℕ} {mid new : Screen} {between after : Writer} → Shows xs old mid before between →
      Shows ys mid new between after → Shows (xs ++ ys) old new before after
  joins {xs} {ys} w v =
      record {
        writes = put.joins w.writes v.writes;
        screen = v.screen ∙ ap (λ k. shown_all k ys) w.screen ∙ sym (shown_all_append xs ys (screen_view old));
      }

  -- what one more turn of a loop adds
  pub adds : {xs ys zs : List ℕ} {mid new : Screen} {between after : Writer} → zs ≡ xs ++ ys → Shows xs old mid before between →
      Shows ys mid new between after → Shows zs old new before after
  adds e w v = equals (sym e) (joins w v)

  -- the column is that behind the bytes
  pub column_behind : {bs : List ℕ} {new : Screen} {after : Writer} → Shows bs old new before after → new.column ≡ column_after_all old.column bs
  column_behind {bs} w = ap (λ v. v.column) w.screen ∙ shown_all-column bs (screen_view old)
