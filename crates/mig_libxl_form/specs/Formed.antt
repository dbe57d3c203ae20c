-- Emulators that are well formed, as a reader keeps them whatever comes, before they are set in a guest.
use Rattle.std.specs.Prelude.{◌≡◌, ◌≤◌, ◌<◌, ◌+◌, ℕ, List, length, Some}
use Rattle.std.specs.FinMap as maps
use Rattle.mig_libxl_form.specs.Common.{AreBytes, code_number, EmulatorContext, EmulatorPairs, most_body, PartKey, most_pairs, PairMap, IsOfPairs, text_of_map}
use Rattle.mig_libxl_form.specs.Emulators.{EmulatorsOf}

-- the key of an emulator's part of this code
pub record IsEmulatorKey (code : ℕ) (key : PartKey) : Type 0 where
  pub is : key.code ≡ code
  pub known : key.key1 < 3
  pub small : key.key2 < 256

-- a store as a guest has it: some pairs, and not too many
pub record IsStore (m : PairMap) : Type 0 where
  pub pairs : IsOfPairs m
  pub some : 0 < length (text_of_map m)
  pub small : length (text_of_map m) ≤ most_pairs
  pub bytes : AreBytes (text_of_map m)

pub record AreEmulators (e : EmulatorsOf) : Type 0 where
  pub stores : (key : PartKey) (m : PairMap) → maps.get e.stores key ≡ Some m → IsEmulatorKey (code_number EmulatorPairs) key × IsStore m
  pub contexts : (key : PartKey) (bytes : List ℕ) → maps.get e.contexts key ≡ Some bytes → IsEmulatorKey (code_number EmulatorContext) key × (length bytes + 8 ≤ most_body) × AreBytes bytes
