-- What loading sets of the line.
use Rattle.std.specs.Prelude.{◌≡◌, List, ℕ}
use Rattle.rules.specs.Settings.{loaded}
use Rattle.sets.specs.View.{CountedSet}
use Rattle.characteristics.specs.declared.Host.{Host}
use Rattle.characteristics.specs.View.{host_view}
use Rattle.line.specs.declared.Line.{Line}
use Rattle.line.specs.View.{host_of}
use Rattle.line.specs.Host.{on_host}

pub record Loads (own site : List ℕ) (l next : Line) : Type 0 where
  pub host : Host
  pub same : next ≡ on_host host l
  pub settings : host_view host ≡ loaded own site (host_of l)
  pub set : CountedSet host.last_set
