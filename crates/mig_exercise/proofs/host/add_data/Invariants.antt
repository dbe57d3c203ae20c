use Rattle.mig_exercise.proofs.Common.{◌≡◌, ℕ, ◌-◌, number, next_number, first_contents, first_data, host_begun, number_page}
use Rattle.mig_exercise.proofs.host.add_data.Given as goal

abbrev pub invariant-loop-pfn : goal.invariant-loop-pfn
invariant-loop-pfn l = record {
  begun : l.host.host ≡ host_begun l.frames (first_contents l.seed) l.pfn;
  last : next_number l.number ≡ number l.seed (l.pfn - first_data l.frames);
  page : (x : ℕ) × (l.page ≡ number_page x);
}
