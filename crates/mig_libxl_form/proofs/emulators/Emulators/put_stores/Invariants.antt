use Rattle.mig_libxl_form.proofs.Common.{◌≡◌, map, put_parts, ArePartsBefore, store_part}
use Rattle.std.specs.FinMap as maps
use Rattle.mig_libxl_form.proofs.emulators.Emulators.put_stores.Given as goal

abbrev pub invariant-loop-key : goal.invariant-loop-key
invariant-loop-key l = record {
  leads : record l.guest { parts = put_parts l.guest.parts (map store_part l.key-iterator) } ≡ record l.fn.guest { parts = put_parts l.fn.guest.parts (map store_part (maps.entries l.self.stores)) };
  begun : ArePartsBefore l.fn.guest l.guest (map store_part l.key-iterator) (map store_part (maps.entries l.self.stores));
}
