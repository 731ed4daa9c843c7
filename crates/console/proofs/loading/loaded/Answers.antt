use mathlib.Core.Path.{◌≡◌, refl, sym, ap, ◌∙◌, subst}
use Rattle.std.proofs.Common.{rules}
use lib.ListN.{take}
use Rattle.rules.specs.Messages.Codec.{set_size}
use Rattle.rules.specs.Settings.{switches_in, table_in, largest_read_in, found_or, loaded}
use Rattle.sets.specs.View.{set_of, CountedSet}
use Rattle.characteristics.specs.View.{switches_of}
use Rattle.characteristics.specs.declared.Host.{Host}
use Rattle.console.proofs.LoadedLine.{by_section, found_either, whole_set, part_loaded}
use Rattle.console.proofs.loading.loaded.Goals as goal

pub returns : goal.returns
unfolding loaded
returns c =
    let a = c.args in
    let l = a.line in
    let switches = c.found_or-next in
    let attributes = c.found_or-next-2 in
    let set = c.found_or-next-3 in
    let largest = c.found_or in
    let found_switches : switches_of switches.result ≡ found_or switches_in c.section-characteristics.result.now (switches_of l.switches) =
    found_either switches_in _ _ (λ e. ap switches_of (switches.ensures.none e)) (λ n. let said = switches.ensures.some n in search rules) in
    let found_table : attributes.result ≡ found_or table_in c.section-attributes.result.now l.attributes =
    found_either table_in _ _ attributes.ensures.none (λ n. let said = attributes.ensures.some n in search rules) in
    let found_set : set_of set.result ≡ found_or (take set_size) c.section-set.result.now (set_of l.last_set) =
    found_either (take set_size) _ _ (λ e. ap set_of (set.ensures.none e)) (λ n. let said = set.ensures.some n in search rules) in
    let found_read : largest.result ≡ found_or largest_read_in c.section-largest_read.result.now l.largest_read =
    found_either largest_read_in _ _ largest.ensures.none (λ n. let said = largest.ensures.some n in search rules) in
    let counted : CountedSet set.result =
    by_section c.section-set.result.now (λ e. subst CountedSet (sym (set.ensures.none e)) c.requires.last_set)
    (λ n. let said = set.ensures.some n in search rules) in
    let host : Host =
    record {
      initiated = l.initiated;
      switches = switches.result;
      attributes = attributes.result;
      last_set = set.result;
      largest_read = largest.result;
    } in
    record {
      host = host;
      same = refl;
      settings = λ i.
          record {
            initiated = l.initiated;
            switches = part_loaded switches_in (switches_of l.switches) found_switches c.section-characteristics.ensures i;
            attributes = part_loaded table_in l.attributes found_table c.section-attributes.ensures i;
            last_set = (part_loaded _ (set_of l.last_set) found_set c.section-set.ensures ∙ whole_set a.own.now a.site.now _) i;
            largest_read = part_loaded largest_read_in l.largest_read found_read c.section-largest_read.ensures i;
          };
      set = counted;
    }
