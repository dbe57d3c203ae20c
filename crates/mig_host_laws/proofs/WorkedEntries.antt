-- What the worked entries of tables say.
use Rattle.mig_host_laws.proofs.Common.{◌≡◌, ℕ, ◌-◌, ◌^◌, refl, Blank, NotPresent, Superpage, Frame}
use Rattle.mig_guest.specs.Tables.{entry_of}

pub level_1 : (slot : ℕ) → entry_of 1 slot 0x80e7 ≡ Frame 8
unfolding entry_of
level_1 slot = refl

pub large : (entry_of 2 0 0x80e7 ≡ Superpage) × (entry_of 3 0 0x80e7 ≡ Superpage) × (entry_of 4 0 0x80e7 ≡ Superpage)
unfolding entry_of
large = (refl, refl, refl)

pub small : (entry_of 2 0 0x8f67 ≡ Frame 8) × (entry_of 3 0 0x8f67 ≡ Frame 8) × (entry_of 4 0 0x8f67 ≡ Frame 8)
unfolding entry_of
small = (refl, refl, refl)

pub absent : (entry_of 1 0 0x8ffe ≡ NotPresent) × (entry_of 2 0 0x8ffe ≡ NotPresent) × (entry_of 3 0 0x8ffe ≡ NotPresent) × (entry_of 4 0 0x8ffe ≡ NotPresent)
unfolding entry_of
absent = (refl, refl, refl, refl)

pub widest : (entry_of 1 0 0xfffffffffffff001 ≡ Frame (2 ^ 40 - 1)) × (entry_of 1 0 0xfff0000000000fff ≡ Frame 0)
unfolding entry_of
widest = (refl, refl)

pub blank : (e : ℕ) → (entry_of 4 256 e ≡ Blank) × (entry_of 4 271 e ≡ Blank)
unfolding entry_of
blank e = (refl, refl)

pub beside : (entry_of 4 255 0x8067 ≡ Frame 8) × (entry_of 4 272 0x8067 ≡ Frame 8) × (entry_of 3 256 0x8067 ≡ Frame 8)
unfolding entry_of
beside = (refl, refl, refl)
