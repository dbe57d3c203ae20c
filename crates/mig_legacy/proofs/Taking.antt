-- What is read of a part of a legacy stream, and what a guest keeps of it.
use Rattle.mig_legacy.proofs.Common.{◌≡◌, ℕ, ◌-◌, List, [], ◌++◌, length, take, drop, refl, ap, ◌∙◌, arith, append_assoc, length-drop, take_all, common_steps, GuestOf, PartKey, clock_of, param_key, tsc_key, Value, Clock, EntryStep, put_in_guest}
use Rattle.std.specs.FinMap as maps

-- the bytes behind the first k
pub behind : (k n : ℕ) (bytes : List ℕ) → length bytes ≡ n → take (n - k) (drop k bytes) ≡ drop k bytes
behind k n bytes len = take_all (n - k) (drop k bytes) (omega (arith, length-drop k bytes, len))

-- ---- the clock

-- its four numbers, put one after another
pub clock_joined : (t0 t1 t2 t3 t4 bytes : List ℕ) → length bytes ≡ 20 → t0 ≡ [] → t1 ≡ t0 ++ take 4 bytes → t2 ≡ t1 ++ take 4 (drop 12 bytes) → t3 ≡ t2 ++ take 8 (drop 4 bytes) → t4 ≡ t3 ++ take 4 (drop 16 bytes) → t4 ≡ clock_of bytes
clock_joined t0 t1 t2 t3 t4 bytes len none is1 is2 is3 is4 =
    let a = take 4 bytes in let b = take 4 (drop 12 bytes) in let c = take 8 (drop 4 bytes) in let d = take 4 (drop 16 bytes) in
    is4 ∙ ap (λ t. t ++ d) (is3 ∙ ap (λ t. t ++ c) (is2 ∙ ap (λ t. t ++ b) (is1 ∙ ap (λ t. t ++ a) none)))
    ∙ append_assoc (a ++ b) c d ∙ append_assoc a b (c ++ d) ∙ ap (λ l. a ++ (b ++ (c ++ l))) (behind 16 20 bytes len)

-- ---- what a guest keeps

pub part_set : (g h : GuestOf) (key other : PartKey) (bytes value : List ℕ) → key ≡ other → bytes ≡ value → h ≡ record g { parts = maps.insert g.parts key bytes } → h ≡ record g { parts = maps.insert g.parts other value }
part_set g h key other bytes value at is now = now ∙ ap (λ k. record g { parts = maps.insert g.parts k bytes }) at ∙ ap (λ l. record g { parts = maps.insert g.parts other l }) is

pub value_set : (put : EntryStep) (g h : GuestOf) (index : ℕ) (key : PartKey) (bytes value : List ℕ) → key ≡ param_key index → bytes ≡ value → h ≡ record g { parts = maps.insert g.parts key bytes } → h ≡ put_in_guest put g (Value index value)
value_set put g h index key bytes value at is now = part_set g h key (param_key index) bytes value at is now

pub clock_set : (put : EntryStep) (g h : GuestOf) (bytes clock : List ℕ) → bytes ≡ clock → h ≡ record g { parts = maps.insert g.parts tsc_key bytes } → h ≡ put_in_guest put g (Clock clock)
clock_set put g h bytes clock is now = part_set g h tsc_key tsc_key bytes clock refl is now

pub clock_len : (bytes : List ℕ) → length bytes ≡ 20 → length (clock_of bytes) ≡ 20
clock_len bytes len = grind (arith, common_steps, len)
