-- Events: what each is of the rules, and what is looked up of the line before it. A host message stands in a slice.
use Rattle.std.specs.Prelude.{ℕ, ◌≡◌, Bool, List, get_or}
use Rattle.rules.specs.State.{codes}
use Rattle.rules.specs.Turns.{Rule}
use Rattle.rules.specs.Arrival.{arrives}
use Rattle.rules.specs.Token.{is_whole}
use Rattle.rules.specs.Steps.{steps, ticks}
use Rattle.message.specs.Found.{held_in}
use Rattle.line.specs.declared.Line.{Line}
use Rattle.line.specs.declared.events.Lookup.{Lookup}
use Rattle.line.specs.declared.events.Event.{Event}
use Rattle.line.specs.declared.events.Event.TheVariants.{Key, Tick, Step, Host}
use Rattle.line.specs.declared.acts.Act.{Act}
use Rattle.line.specs.TokenChanges.{codes_of}
use Rattle.line.specs.Acts.{event_kinds_of, TakesFirst}
use Rattle.line.specs.Bounded.{Bounded}
use Rattle.line.specs.Host.{message_of, Accepted, obeys_held}

-- what a step looks at
pub record LookedUpForStep (s : List ℕ) (l : Line) (lookup : Lookup) : Type 0 where
  pub bounded : Bounded l
  pub held : lookup.held ≡ is_whole (codes_of l.flow.typed)
  pub taken : TakesFirst s l lookup.taken

-- what was looked up of the line is so
abbrev pub LookedUp : List ℕ → Line → Event → Type 0
LookedUp s l (Key c attribute initiated) = (initiated ≡ l.initiated) × (attribute ≡ get_or l.attributes c 0)
LookedUp s l (Tick held) = held ≡ is_whole (codes_of l.flow.typed)
LookedUp s l (Step lookup) = LookedUpForStep s l lookup
LookedUp s l (Host m) = Accepted l s m

-- an event may meet this act
abbrev pub is_act_of : Event → Act → Bool
is_act_of (Key c attribute initiated) a = (event_kinds_of a).key
is_act_of (Tick held) a = (event_kinds_of a).tick
is_act_of (Step lookup) a = (event_kinds_of a).step
is_act_of (Host m) a = (event_kinds_of a).host

-- the rule that an event is; a key is its arrival
unfoldable pub event_rule : List ℕ → Event → Rule ℕ
event_rule s (Key c attribute initiated) = arrives codes c
event_rule s (Tick held) = ticks codes
event_rule s (Step lookup) = steps codes
event_rule s (Host m) = obeys_held (held_in s (message_of m))
