-- The rows of the three questions, evaluated.
use mathlib.Core.Path.{refl}
use lib.Count.{ones}
use Rattle.basics.specs.Octets.{big, has_bits, octets_of}
use Rattle.tlv.specs.Tlv.{tlvs, tlvs_up, cut_at, of_type, lone_fault, unless}
use Rattle.restart_tlv.specs.Flags.{counted, without, invalid, needs_neighbor, needs_time}
use Rattle.restart_tlv.specs.Restart.{least_length, restart_bad, restart_with, time_of, neighbor_of, restart_octets}
use Rattle.hello.specs.Header.{layout_of, not_hello, bad_length}
use Rattle.hello.specs.ThreeWay.{three_way_bad, three_way_length, state_of, identifiers_of}
use Rattle.hello.specs.Reverse.{reverse_bad, reverse_of}
use Rattle.neighbours.specs.Lists.{neighbours_fault, listed, list_read}
use Rattle.neighbours.specs.Neighbours.{listed_to}
use Rattle.hello.specs.Hello.{fault_on, link_read, earlier, tlv_fault, rule_fault, refused_at, tlvs_read, pdu_read, layout_read, hello_read}
use Rattle.adjacency.specs.Step.{wrong_source, wrong_id, wrong_neighbor, link_step, kept_up, step_of, rises}
use Rattle.adjacency.specs.Marks.{planned, line_by, line_of}
use Rattle.adjacency.specs.React.{data_by, accepted_by, line_in, react_of}
use Rattle.adjacency.specs.Duty.{csnps_of, outranks}
use Rattle.adjacency.specs.Keys.{same_key, key_on}
use Rattle.room.specs.Table.{find, has, full, crowded, replace, insert, put, sweep, first_state, empty_room}
use Rattle.metric.specs.Metric.{held_to}
use Rattle.basics.specs.Mask.{bits_of, any_true, any_shared, count_true, first_pair}
use Rattle.timer_parts.specs.Heard.{heard_without_tlv, acknowledges, heard_tlv, heard_of}
use Rattle.timer_parts.specs.T1.{start_entry, begins, begin, begun_by, hello_flags, stop_t1, again, noted, due, hello_due, tick_t1, done, satisfied, acknowledged, heard_t1, freed_by}
use Rattle.timer_parts.specs.T2.{notice_t2, notice_both, start_timer, start_t2s, any_t2, any_after, cancel_t2, cancel_both, expire_t2, expire_both, spf_due}
use Rattle.timer_parts.specs.T3.{lower_t3, heard_t3, expires_t3, expired_t3}
use Rattle.timers.specs.Timers.{with_t1s, with_t2s, with_t3, count_runs, lowest_runs, no_t1, at_t1, tick_t1s, expire_t2s, waits, cancel_t2s, tick_t3, over, finish, closed, settled, to_t3, heard_in, csnp_in, notice_t2s}
use Rattle.timers.specs.Outcome.{overload_of, overload_due, outcome_with, outcome_of, ordered, tick_hellos, overloaded, freed_with, heard_orders}
use Rattle.timers.specs.Hellos.{ordering, begin_hello}
use Rattle.timers.specs.Events.{head_by, start_t1, start_hellos, started}
use Rattle.basics.specs.Lists.{every, some}
use Rattle.settings.specs.Settings.{circuit_ok, lengths_ok, settings_ok, enabled_levels}
use Rattle.settings.specs.Serving.{serving_with, serving, served_at}
use Rattle.control.specs.Common.{circuit_of, setup_common}
use Rattle.room.specs.Accept.{if_room, decided, kept, written, csnps_in}
use Rattle.model.specs.Gateway.{numbered, renew, record_at, new_gateway, setup}
use Rattle.model.specs.Receive.{refuse, accepted, reacted, decided_in, checked, read_in, receive}
use Rattle.model.specs.Step.{csnp_complete, look_up, link_metric_of, next_hello, act, lift, on, at, none_of, tick_of, database_of, judge, carry, step}
use Rattle.model.specs.Trace.{trace, left_by}
use Rattle.reasons.specs.Duty.{duty_with, duty_at, duty_from}
use Rattle.reasons.specs.Why.{stands_on, standing, turned_away, not_advertised, gone_by, vanished, fits_read, fits_on, unordered, why_of}
use Rattle.reasons.specs.SampleWhys.{SampleWhys}
use Rattle.model.specs.SampleFrames.{calls_of, seen_by}

pub sample-whys : SampleWhys
unfolding ones big has_bits octets_of tlvs tlvs_up cut_at of_type lone_fault unless counted without invalid needs_neighbor needs_time least_length restart_bad restart_with time_of neighbor_of restart_octets layout_of not_hello bad_length three_way_bad three_way_length state_of identifiers_of reverse_bad reverse_of fault_on earlier tlv_fault rule_fault refused_at tlvs_read pdu_read layout_read hello_read wrong_source wrong_id wrong_neighbor link_step kept_up step_of planned line_by line_of data_by accepted_by line_in react_of csnps_of same_key find has full crowded replace insert put sweep first_state empty_room held_to bits_of acknowledges heard_tlv heard_of start_entry due hello_due tick_t1 done satisfied acknowledged heard_t1 freed_by start_timer start_t2s any_t2 any_after cancel_t2 cancel_both expire_t2 expire_both spf_due lower_t3 heard_t3 expires_t3 expired_t3 with_t1s with_t2s with_t3 count_runs lowest_runs count_true first_pair any_shared serving serving_with served_at no_t1 at_t1 tick_t1s expire_t2s waits cancel_t2s tick_t3 finish closed settled to_t3 heard_in overload_of overload_due outcome_with outcome_of ordered tick_hellos overloaded freed_with heard_orders ordering begin_hello begins begin begun_by rises any_true head_by start_t1 start_hellos started every some circuit_ok lengths_ok settings_ok enabled_levels circuit_of setup_common key_on if_room decided kept written csnps_in numbered renew record_at new_gateway setup refuse accepted reacted decided_in checked read_in receive csnp_complete look_up link_metric_of next_hello act lift on at none_of tick_of database_of judge carry step trace left_by calls_of seen_by neighbours_fault listed list_read listed_to link_read outranks heard_without_tlv stop_t1 again noted hello_flags notice_t2 notice_both over csnp_in notice_t2s duty_with duty_at duty_from stands_on standing turned_away not_advertised gone_by vanished fits_read fits_on unordered why_of
sample-whys = ((refl, refl), refl, (refl, refl, refl), ((refl, refl), refl), (refl, refl, refl, refl, refl, refl, refl))
