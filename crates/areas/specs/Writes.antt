-- What a writer's method promises: these bytes were put from its place on, through the same reference.
use Rattle.std.specs.Prelude.{◌≡◌, ℕ, List}
use Rattle.areas.specs.Puts.{Puts}
use Rattle.areas.specs.declared.Writer.{Writer}

pub record Writes (bytes : List ℕ) (old new : Writer) : Type 0 where
  pub puts : Puts bytes old.area.now old.at new.at new.area.now
  pub same_reference : new.area.ghost_name ≡ old.area.ghost_name
