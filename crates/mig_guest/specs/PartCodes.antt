-- What parts there are (libxc migration stream, "Records", and libxl migration stream, the emulator records). A row has
-- the number of the code, the kinds of guest that have such parts, their keys, and the lengths of their bytes.
use Rattle.std.specs.Prelude.{ℕ, ◌+◌, ◌-◌, ◌*◌, ◌/◌, ◌%◌, Bool, true, List, [], ◌∷◌, Option, ◌==◌, ◌&&◌, ◌||◌, nat_le, nat_lt, find}
use Rattle.mig_guest.specs.Common.{Kind, both, pv, hvm, exactly, most_body, vcpu_limit}
use Rattle.mig_guest.specs.Limits.{most_pairs}
use Rattle.mig_guest.specs.declared.part_code.PartCode.{PartCode}
use Rattle.mig_guest.specs.declared.part_code.PartCode.TheVariants.{P2mFrames, VcpuBasic, VcpuExtended, VcpuXsave, SharedInfo, Tsc, HvmContext, HvmParam, VcpuMsrs, CpuidLeaf, Msr, EmulatorPairs, EmulatorContext}

pub record PartRow : Type 0 where
  pub number : ℕ
  pub of_kind : Kind → Bool
  pub keys : ℕ → ℕ → Bool
  pub allows : ℕ → ℕ → Bool

-- the column of keys
abbrev pub no_keys : ℕ → ℕ → Bool
no_keys key1 key2 = (key1 == 0) && (key2 == 0)

-- a vCPU's id, or a parameter's index
abbrev pub small_number : ℕ → ℕ → Bool
small_number key1 key2 = nat_lt key1 vcpu_limit && (key2 == 0)

-- an emulator's id and index
abbrev pub emulator : ℕ → ℕ → Bool
emulator key1 key2 = nat_lt key1 3 && nat_lt key2 256

abbrev pub one_key : ℕ → ℕ → Bool
one_key key1 key2 = key2 == 0

abbrev pub any_keys : ℕ → ℕ → Bool
any_keys key1 key2 = true

-- the column of lengths, which for the P2M frames depends on how many frame numbers there are
abbrev pub always : (ℕ → Bool) → ℕ → ℕ → Bool
always allows width len = allows len

abbrev pub from_to : ℕ → ℕ → ℕ → Bool
from_to least most len = nat_le least len && nat_le len most

abbrev pub at_most : ℕ → ℕ → Bool
at_most most len = nat_le len most

-- 8 bytes for each 512 frame numbers
abbrev pub for_each_p2m_frame : ℕ → ℕ → Bool
for_each_p2m_frame width len = len == 8 * ((width - 1) / 512 + 1)

-- entries of 16 bytes, of which there are some
abbrev pub some_msrs : ℕ → Bool
some_msrs len = (len % 16 == 0) && (nat_le 16 len && nat_le len (most_body - 16))

abbrev pub row : ℕ → (Kind → Bool) → (ℕ → ℕ → Bool) → (ℕ → ℕ → Bool) → PartRow
row number of_kind keys allows = record { number = number; of_kind = of_kind; keys = keys; allows = allows }

abbrev pub row_of : PartCode → PartRow
row_of P2mFrames = row 3 pv no_keys for_each_p2m_frame
row_of VcpuBasic = row 4 pv small_number (always (exactly 5168))
row_of VcpuExtended = row 5 pv small_number (always (from_to 1 (most_body - 8)))
row_of VcpuXsave = row 6 pv small_number (always (from_to 1 (most_body - 8)))
row_of SharedInfo = row 7 pv no_keys (always (exactly 4096))
row_of Tsc = row 8 both no_keys (always (exactly 20))
row_of HvmContext = row 9 hvm no_keys (always (at_most most_body))
row_of HvmParam = row 10 hvm small_number (always (exactly 8))
row_of VcpuMsrs = row 12 pv small_number (always some_msrs)
row_of CpuidLeaf = row 17 both any_keys (always (exactly 16))
row_of Msr = row 18 both one_key (always (exactly 12))
row_of EmulatorPairs = row 258 hvm emulator (always (from_to 1 most_pairs))
row_of EmulatorContext = row 259 hvm emulator (always (at_most (most_body - 8)))

abbrev pub code_number : PartCode → ℕ
code_number code = (row_of code).number

-- the codes in the order of their numbers
abbrev pub part_codes : List PartCode
part_codes = P2mFrames ∷ VcpuBasic ∷ VcpuExtended ∷ VcpuXsave ∷ SharedInfo ∷ Tsc ∷ HvmContext ∷ HvmParam ∷ VcpuMsrs ∷ CpuidLeaf ∷ Msr ∷ EmulatorPairs ∷ EmulatorContext ∷ []

-- the code that has this number
abbrev pub code_of_number : ℕ → Option PartCode
code_of_number number = find (λ code. code_number code == number) part_codes

-- the codes of the parts whose bytes never change while a guest runs: P2M frames, CPUID leaves, MSRs of the policy, an
-- emulator's pairs
abbrev pub is_fixed : ℕ → Bool
is_fixed code = (code == 3) || ((code == 17) || ((code == 18) || (code == 258)))
