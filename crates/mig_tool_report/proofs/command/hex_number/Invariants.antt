use Rattle.mig_tool_report.proofs.Common.{◌≡◌, ◌<◌, ◌^◌, drop, hex_behind}
use Rattle.mig_tool_report.proofs.command.hex_number.Given as goal

abbrev pub invariant-loop-letter : goal.invariant-loop-letter
invariant-loop-letter l = record {
  so_far : hex_behind 0 l.letters ≡ hex_behind l.number (drop l.letter-index l.letters);
  small : l.number < 16 ^ l.letter-index;
}
