-- What the reader of a libxl stream keeps is formed, whatever records come.
use Rattle.mig_libxl.proofs.Common.{◌≡◌, ℕ, ◌≤◌, ◌<◌, true, List, length, drop, None, sym, ap, subst, arith, All-drop, AreBytes, pairs_fault, text_of_map, put_pairs, EmulatorsOf, store_at, add_pairs, AreEmulators, WrapperSeen, length-drop, pairs_in, IsLibxlBegun, most_pairs, most_body, false≢true, context_kept, pairs_kept}
use Rattle.std.specs.FinMap as maps

module _ {I : Type 0} (kept : I → Type 0) (seen : WrapperSeen I) (new : EmulatorsOf) (slice : List ℕ) (id index : ℕ) (begun : IsLibxlBegun kept seen) (known : id < 3) (small : index < 256) where
  begun_with : AreEmulators new → IsLibxlBegun kept (record { emulators = new; image = seen.image; emulated = true; records = seen.records })
  begun_with are = record { emulators = are; none = λ no. absurd (false≢true (sym no)); guest = begun.guest }

  pub context_begun : (body : List ℕ) → new ≡ record seen.emulators { contexts = maps.insert seen.emulators.contexts (record { code = 259; key1 = id; key2 = index }) slice } → slice ≡ drop 8 body → 8 ≤ length body → length body ≤ most_body → AreBytes body
      → IsLibxlBegun kept (record { emulators = new; image = seen.image; emulated = true; records = seen.records })
  context_begun body is cut long short are =
      begun_with (context_kept seen.emulators new slice id index begun.emulators known small is (omega (arith, ap length cut, length-drop 8 body, long, short)) (subst AreBytes (sym cut) (All-drop (λ b. b < 256) 8 body are)))

  pub pairs_begun : new ≡ add_pairs seen.emulators (record { code = 258; key1 = id; key2 = index }) (pairs_in slice) → pairs_fault slice ≡ None
      → length (text_of_map (put_pairs (store_at seen.emulators.stores (record { code = 258; key1 = id; key2 = index })) (pairs_in slice))) ≤ most_pairs → AreBytes slice
      → IsLibxlBegun kept (record { emulators = new; image = seen.image; emulated = true; records = seen.records })
  pairs_begun is none fits are = begun_with (pairs_kept seen.emulators new slice id index begun.emulators known small is none fits are)
