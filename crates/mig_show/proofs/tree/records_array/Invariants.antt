use Rattle.mig_show.proofs.Common.{◌≡◌, map, take, record_tree, view}
use Rattle.mig_show.proofs.tree.records_array.Given as goal

abbrev pub invariant-loop-record : goal.invariant-loop-record
invariant-loop-record l = map view l.objects.items ≡ map record_tree (take l.record-index l.list)
