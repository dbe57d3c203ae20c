-- Names that several definitions and contracts of this crate use.
pub use Rattle.mig_guest.specs.History.{History, after_call, after_log, after_peek, no_history}
pub use Rattle.mig_guest.specs.Hosts.{HostOf, IsValid, most_saved_width}
pub use Rattle.mig_guest.specs.Pfns.{no_pfns, pfns_of_words}
pub use Rattle.mig_machine.specs.MachineSeen.{history_of, is_paused}
