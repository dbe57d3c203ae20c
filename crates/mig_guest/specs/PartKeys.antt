-- The keys of the parts of a guest: the code is the type of the record that sets the part.
use Rattle.std.specs.Prelude.{ℕ}
use Rattle.mig_guest.specs.declared.part_key.PartKey.{PartKey}

-- HVM_CONTEXT
abbrev pub context_key : PartKey
context_key = record { code = 9; key1 = 0; key2 = 0 }

-- X86_PV_P2M_FRAMES
abbrev pub p2m_key : PartKey
p2m_key = record { code = 3; key1 = 0; key2 = 0 }

-- X86_PV_VCPU_BASIC of a vCPU
abbrev pub vcpu_key : ℕ → PartKey
vcpu_key id = record { code = 4; key1 = id; key2 = 0 }

-- SHARED_INFO
abbrev pub shared_key : PartKey
shared_key = record { code = 7; key1 = 0; key2 = 0 }
