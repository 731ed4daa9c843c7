-- What is set, as the rules have it; and what a line keeps of the struct: its arrays' lengths, which their types say.
use Rattle.std.specs.Prelude.{◌≡◌, length}
use Rattle.rules.specs.Numbers.{code_count}
use Rattle.rules.specs.State as rules
use Rattle.sets.specs.View.{set_of, CountedSet}
use Rattle.characteristics.specs.declared.Switches.{Switches}
use Rattle.characteristics.specs.declared.Host.{Host}

abbrev pub switches_of : Switches → rules.Switches
switches_of s =
    record { raising = s.raising; echoing = s.echoing; recognising = s.recognising; prompting = s.prompting }

abbrev pub host_view : Host → rules.Host
host_view h =
    record {
      initiated = h.initiated;
      switches = switches_of h.switches;
      attributes = h.attributes;
      last_set = set_of h.last_set;
      largest_read = h.largest_read;
    }

pub record CountedHost (h : Host) : Type 0 where
  pub table : length h.attributes ≡ code_count
  pub set : CountedSet h.last_set

-- what settings leave as it is
pub record KeepsSettings (h r : Host) : Type 0 where
  pub initiated : r.initiated ≡ h.initiated
  pub set : r.last_set ≡ h.last_set
  pub counted : CountedHost h → CountedHost r
