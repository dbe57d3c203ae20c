-- What is worked through, computed.
use Rattle.std.proofs.Common.{◌≡◌, ℕ, List, map, refl}
use Rattle.hex.specs.Hex.{encode_with}
use Rattle.mig_legacy.specs.Chunks.{kind_numbered}
use Rattle.mig_legacy.specs.Legacy.{tail_records}
use Rattle.mig_legacy.specs.LegacyForm.{clock_of, tail_of}
use Rattle.mig_legacy.specs.Texts.{hexadecimal, pairs_of_physmap}
use Rattle.mig_legacy.specs.declared.chunk.ChunkKind.{ChunkKind}
use Rattle.mig_legacy_laws.specs.WorkedMeanings.{chunk_numbers, clock_bytes, clock_in_order, memory_pairs, named_memory, tail_frames, tail_said, unnamed_memory, unnamed_pairs}

pub numbers : map (λ (row : ℕ × ChunkKind). kind_numbered row.0) chunk_numbers ≡ map (λ (row : ℕ × ChunkKind). row.1) chunk_numbers
numbers = refl

pub clock : clock_of clock_bytes ≡ clock_in_order
clock = refl

pub tail : (context : List ℕ) → tail_records (tail_of tail_frames context) ≡ tail_said (tail_of tail_frames context).context
tail context = refl

pub named : pairs_of_physmap named_memory ≡ memory_pairs
unfolding hexadecimal encode_with
named = refl

pub unnamed : pairs_of_physmap unnamed_memory ≡ unnamed_pairs
unfolding hexadecimal encode_with
unnamed = refl
