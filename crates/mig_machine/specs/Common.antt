-- Names that several definitions and contracts of this crate use.
pub use Rattle.std.specs.Coded.{Coded, code_by, coded_bool, coded_list, coded_option, coded_ℕ, coded×}
pub use Rattle.std.specs.List.{All, list_any}
pub use Rattle.mig_bytes.specs.Faults.{FaultHasCause}
pub use Rattle.mig_bytes.specs.Memory.{IsListed, counted_up}
pub use Rattle.mig_guest.specs.History.{History, LogTook, Since, no_history, one_more}
pub use Rattle.mig_guest.specs.Hosts.{HostOf, host_code, most_saved_width, pfn_in}
pub use Rattle.mig_guest.specs.MachineCalls.{LogTaken, LookedUp, Paused, Peeked, page_peeked, seen_at}
pub use Rattle.mig_guest.specs.MachineStates.{IsValidState, MachineState, Ran, Stays}
pub use Rattle.mig_guest.specs.Pfns.{Pfns, all_below, joined, members, no_pfns, pfns_of_words, size}
pub use Rattle.mig_guest.specs.Rounds.{AreCalls, OfEachLog, Rounds, Tight, all_read, least_log, most_rounds}
pub use Rattle.mig_machine_script.proofs.CoursesRun.{later_itself, later_still}
pub use Rattle.mig_machine_script.specs.Courses.{Course, IsLaterCourse}
pub use Rattle.mig_machine_script.specs.Groups.{lines_up_to, ran, ran_between}
pub use Rattle.mig_machine_script.specs.HostLines.{after, logged_after, room_for}
pub use Rattle.mig_machine_script.specs.ScriptLines.{LineOf, line_code}
pub use Rattle.mig_machine_script.specs.Touched.{touched}
