-- One name that opens the rules' definitions, for what is proved by computing: a part for each file, and the whole. Area and Bounds have no part, and Messages/Fields needs none.
use mathlib.Core.List.{zip_with}
use Rattle.rules.specs.Choice
use Rattle.rules.specs.Numbers
use Rattle.rules.specs.Messages.Layout
use Rattle.rules.specs.Messages.Parameters
use Rattle.rules.specs.Messages.Forms
use Rattle.rules.specs.Messages.Codec
use Rattle.rules.specs.Messages.Unused
use Rattle.rules.specs.StartRead
use Rattle.rules.specs.Screen
use Rattle.rules.specs.State
use Rattle.rules.specs.Turns
use Rattle.rules.specs.Token
use Rattle.rules.specs.ReadData
use Rattle.rules.specs.Editing
use Rattle.rules.specs.Arrival
use Rattle.rules.specs.StartRead.Acceptance
use Rattle.rules.specs.Steps
use Rattle.rules.specs.Characteristics
use Rattle.rules.specs.Write
use Rattle.rules.specs.Host
use Rattle.rules.specs.Settings
use Rattle.rules.specs.Settings.Moving
use Rattle.rules.specs.Calls
use Rattle.rules.specs.Bench
use Rattle.rules.specs.Bench.Rows
use Rattle.rules.specs.TwoRuns
use Rattle.rules.specs.TwoRuns.Examples

unfoldable pub open_choice : Unit {0}
unfolding Choice.pick Choice.first_row_answer Choice.within Choice.bit Choice.is_empty Choice.all_are Choice.any_is Choice.joined Choice.same Choice.same_all
open_choice = tt

unfoldable pub open_numbers : Unit {0}
unfolding Numbers.input_size Numbers.type_ahead_size Numbers.token_size Numbers.message_size Numbers.terminal_area Numbers.message_area Numbers.moving_area Numbers.top_column Numbers.top_dropped
open_numbers = tt

unfoldable pub open_layout : Unit {0}
unfolding Layout.fields_in Layout.number_of Layout.fits Layout.size_of Layout.widths_of Layout.read_groups Layout.write_groups Layout.framed
open_layout = tt

unfoldable pub open_parameters : Unit {0}
unfolding zip_with Parameters.defined_selector Parameters.question_limits Parameters.value_limits Parameters.defined_value Parameters.under Parameters.limits_of Parameters.parameter_size Parameters.sound_parameter Parameters.fits_parameter Parameters.cleaned Parameters.cut
open_parameters = tt

unfoldable pub open_forms : Unit {0}
unfolding Forms.forms Forms.form_of
open_forms = tt

unfoldable pub open_codec : Unit {0}
unfolding Codec.defined_kind Codec.defined_fields Codec.whole_tail Codec.set_in Codec.parameters_in Codec.text_in Codec.behind_head Codec.fields_as Codec.sound_as Codec.sound_length Codec.read_refusals Codec.read Codec.all_bytes Codec.tail_bytes Codec.bytes_as Codec.fits_tail Codec.fits_as Codec.kind_of Codec.held_bytes Codec.fits_held Codec.write_refusals Codec.written
open_codec = tt

unfoldable pub open_unused : Unit {0}
unfolding Unused.bits_of Unused.zero_groups Unused.zero_tail Unused.zero_as Unused.unused_zero
open_unused = tt

unfoldable pub open_start_read : Unit {0}
unfolding StartRead.sound_fields StartRead.sound_start_read StartRead.in_set StartRead.universal StartRead.chosen_set
open_start_read = tt

unfoldable pub open_screen : Unit {0}
unfolding Screen.is_mark Screen.column_after Screen.column_after_all Screen.shown Screen.shown_all Screen.change Screen.echo Screen.echo_terminator Screen.echo_all Screen.marks_behind Screen.rub_out
open_screen = tt

unfoldable pub open_state : Unit {0}
unfolding State.raised State.fresh_switches State.fresh_host State.fresh_terminal State.fresh
open_state = tt

unfoldable pub open_turns : Unit {0}
unfolding Turns.still Turns.writes Turns.sends Turns.tells Turns.changes Turns.behind Turns.◌then◌ Turns.only
open_turns = tt

unfoldable pub open_token : Unit {0}
unfolding Token.next Token.place_from Token.is_finished Token.is_valid Token.standing Token.is_whole Token.is_partial
open_token = tt

unfoldable pub open_read_data : Unit {0}
unfolding ReadData.waiting_count ReadData.checks_input ReadData.more_data ReadData.read_data_of ReadData.loses_partial ReadData.sends_read_data ReadData.ends_read ReadData.completes ReadData.unreads_while ReadData.unreads
open_read_data = tt

unfoldable pub open_editing : Unit {0}
unfolding Editing.is_word Editing.leading Editing.left_by_delete_word Editing.end_of Editing.hidden_count Editing.shortened Editing.deletes_without_rubbing Editing.displayed Editing.rub_out_bytes Editing.deletes Editing.displays_data Editing.displays Editing.redisplays
open_editing = tt

unfoldable pub open_arrival : Unit {0}
unfolding Arrival.is_immediate_clear Arrival.is_hello Arrival.idle_again Arrival.keeps Arrival.counts_dropped Arrival.drops Arrival.stores Arrival.stores_quoted Arrival.quotes Arrival.sends_discard_state Arrival.unlocks Arrival.unlocks_if_discarding Arrival.flips_discard Arrival.are_controls_off Arrival.empties_typed Arrival.clears_input Arrival.clear_rule Arrival.clears_by Arrival.sends_out_of_band Arrival.ends_out_of_band Arrival.clears_at_once Arrival.controlled Arrival.by_first_rule Arrival.arrives
open_arrival = tt

unfoldable pub open_acceptance : Unit {0}
unfolding Acceptance.chosen Acceptance.hides_lf Acceptance.shown_prompt Acceptance.data_behind Acceptance.hides_input Acceptance.opened_terms Acceptance.opened_read Acceptance.remembers_set Acceptance.clears_first Acceptance.feeds_line Acceptance.auto_prompts Acceptance.completes_if_full Acceptance.begins Acceptance.starts_read
open_acceptance = tt

unfoldable pub open_steps : Unit {0}
unfolding Steps.appended Steps.is_edit_key Steps.is_token_start Steps.sets_idle Steps.token_code Steps.ends_by_token Steps.takes_token Steps.adds_to_token Steps.echoes_if Steps.echoes_terminator_if Steps.takes_data Steps.terminates Steps.underflows Steps.erases Steps.erases_all Steps.shows_again Steps.edits Steps.takes_plain Steps.raised_by Steps.takes Steps.takes_first Steps.steps_while Steps.steps Steps.idles Steps.ticks_while Steps.ticks
open_steps = tt

unfoldable pub open_characteristics : Unit {0}
unfolding Characteristics.is_carried Characteristics.masked Characteristics.with_attribute Characteristics.with_switch Characteristics.with_parameter Characteristics.with_parameters Characteristics.is_deferred_clear Characteristics.switch_of Characteristics.reported Characteristics.report Characteristics.carries_settings
open_characteristics = tt

unfoldable pub open_write : Unit {0}
unfolding Write.affix_bytes Write.own_bytes Write.has_output Write.unskipped Write.stops_discarding Write.writes_own Write.ends_line Write.writes_output Write.completion Write.sends_completion Write.locks_by Write.redisplays_while Write.redisplays_if_asked Write.writes_out
open_write = tt

unfoldable pub open_host : Unit {0}
unfolding Host.our_initiate Host.initiates Host.reports Host.sets_characteristics Host.obeys
open_host = tt

unfoldable pub open_settings : Unit {0}
unfolding Settings.is_form Settings.front_section Settings.behind_section Settings.are_whole Settings.section_behind Settings.section_in Settings.is_switch Settings.sound_switches Settings.is_listed Settings.sound_pairs Settings.sound_set Settings.largest_read_bytes Settings.top_largest_read Settings.sound_largest_read Settings.is_sound Settings.switches_in Settings.with_pairs Settings.table_in Settings.unless_empty Settings.meaning_of Settings.are_sound Settings.found_section Settings.found_or Settings.loaded Settings.loads Settings.attribute_parameters_from Settings.switch_parameters Settings.switch_bytes Settings.pairs_from Settings.bits_where Settings.unless_trailing Settings.set_where Settings.or_empty Settings.sections_of Settings.record_of Settings.is_sayable
open_settings = tt

unfoldable pub open_moving : Unit {0}
unfolding Moving.other_form Moving.is_movable Moving.largest_read_as Moving.moved_sections Moving.moved Moving.move_refusals Moving.move
open_moving = tt

unfoldable pub open_calls : Unit {0}
unfolding Calls.area_after Calls.map_text Calls.sent_bytes Calls.is_servers Calls.is_hosts Calls.carries_start_read Calls.carries_write Calls.is_pending Calls.is_timely Calls.carries_questions Calls.passes_test Calls.is_unsound Calls.is_carried_by Calls.carries Calls.refusals Calls.received Calls.refuses Calls.does Calls.answers_load Calls.answers_message Calls.keystroke Calls.answers Calls.answer Calls.message_bytes Calls.run_from Calls.run
open_calls = tt

unfoldable pub open_bench : Unit {0}
unfolding Bench.reads_as Bench.ends_in Bench.copy_of Bench.answers_as Bench.runs_as Bench.holds Bench.failures Bench.typed_unseen Rows.starred Rows.warned
open_bench = tt

unfoldable pub open_two_runs : Unit {0}
unfolding TwoRuns.event_kind TwoRuns.event_bytes TwoRuns.code_of TwoRuns.agree TwoRuns.alike TwoRuns.changed_at TwoRuns.each_changed TwoRuns.is_printing TwoRuns.both_printing TwoRuns.same_class TwoRuns.code_in TwoRuns.raised_in TwoRuns.placed_event TwoRuns.placed TwoRuns.history TwoRuns.fate_test TwoRuns.is_out_of_band TwoRuns.in_band TwoRuns.unacted TwoRuns.unechoed TwoRuns.untokened TwoRuns.unset TwoRuns.unset_raised TwoRuns.is_changed TwoRuns.in_both TwoRuns.suppositions TwoRuns.supposed TwoRuns.blanked TwoRuns.seen
open_two_runs = tt

unfoldable pub open_examples : Unit {0}
unfolding Examples.same_seen Examples.looks_same Examples.host_reads Examples.conversation Examples.reading Examples.meets Examples.passcodes Examples.is_hidden Examples.broken Examples.shows
open_examples = tt

unfoldable pub whole : Unit {0}
unfolding open_choice open_numbers open_layout open_parameters open_forms open_codec open_unused open_start_read open_screen open_state open_turns open_token open_read_data open_editing open_arrival open_acceptance open_steps open_characteristics open_write open_host open_settings open_moving open_calls open_bench open_two_runs open_examples
whole = tt
