-- Names that many proofs of this crate use.
pub use Rattle.std.proofs.Common.{Bool, List, None, Option, Some, [], ap, append-nil, arith, cond, drop, false, get_or, inl, inr, is_some, le_refl, length, length-append, map, min, nat_eq, nat_lt, refl, rules, slice_set, subst, suc, sym, take, true, unwrap_or, zero, ℕ, ◌%◌, ◌*◌, ◌++◌, ◌+◌, ◌-◌, ◌/◌, ◌<◌, ◌^◌, ◌∙◌, ◌∷◌, ◌≡◌, ◌≤◌, ◌⊎◌}
pub use Rattle.std.proofs.Math.Path.{fun_ext}
pub use Rattle.std.proofs.lemmas.Grind.{common_steps}
pub use Rattle.std.specs.List.{All, list_any, range_with_len}
pub use Rattle.std.specs.Option.{option_map}
pub use Rattle.std.specs.Prelude.{Contains, IfSome, filter, slice_get, ◌==◌, ◌||◌}
pub use Rattle.mig_guest.specs.History.{History, LogTook, Since, after_call, after_log, after_peek, and_call, and_read, no_history, nothing_asked, one_more}
pub use Rattle.mig_guest.specs.Hosts.{HostFrame, HostOf, IsValid, most_saved_width}
pub use Rattle.mig_guest.specs.MachineCalls.{LogTaken}
pub use Rattle.mig_guest.specs.MachineStates.{MachineState, Ran}
pub use Rattle.mig_guest.specs.Pfns.{Pfns, all_below, joined, members, no_pfns, pfns_of_words, size}
pub use Rattle.mig_machine.specs.Exact.{AreExact, HasRoomToCount, IsExactBy, IsExactFrom, IsLaterMachine, RunsOn, RunsTillPaused, StandAroundPause, asked_before, asked_in}
pub use Rattle.mig_machine.specs.Forgetful.{ForgetfulSeen, TakesMore, forgetful_state, forgetting, forgotten, log_forgotten, without_pfns}
pub use Rattle.mig_machine.specs.Histories.{AsksOn, IsLaterHistory}
pub use Rattle.mig_machine.specs.MachineFields.{machine_seen}
pub use Rattle.mig_machine.specs.MachineSeen.{HistoryNoted, MachineSeen, calls_of, course_of, history_of, history_told, is_paused, log_of, log_told, machine_state}
pub use Rattle.mig_machine.specs.Noted.{history_in, log_noted, logs_before, noted_in}
pub use Rattle.mig_machine_script.specs.Groups.{first_group, first_length, ran, ran_between}
pub use Rattle.mig_machine_script.specs.HostLines.{after, logged_after, room_for}
pub use Rattle.mig_machine_script.specs.ScriptLines.{LineOf}
pub use Rattle.mig_machine_script.specs.Touched.{touched}
pub use Rattle.mig_machine_script.proofs.CoursesRun.{IsNextCount, after_between, from_start, group_ran, later_now, logged_next, next_place, touched_on, touched_same}
pub use Rattle.mig_machine_script.proofs.LinesLogged.{LinesRan, regular}
pub use Rattle.std.proofs.lemmas.Bool.{cases_lt, eqb-true, lt-ltb}
