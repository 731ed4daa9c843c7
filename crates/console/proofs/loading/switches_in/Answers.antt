use Rattle.rules.specs.Settings.{switches_in}
use Rattle.console.proofs.loading.switches_in.Goals as goal

pub returns : goal.returns
unfolding switches_in
returns c =
    λ i.
    record {
      raising = c.switch_in.ensures i;
      echoing = c.switch_in-2.ensures i;
      recognising = c.switch_in-3.ensures i;
      prompting = c.switch_in-4.ensures i;
    }
