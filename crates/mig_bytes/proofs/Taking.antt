-- What is taken are bytes, and no more than were asked for.
use Rattle.mig_bytes.proofs.Common.{◌≡◌, ℕ, ◌+◌, ◌<◌, ◌≤◌, Err, Ok, Result, List, [], ◌++◌, length, get_or, take, Option, Some, None, sym, ap, subst, ◌∙◌, arith, length-append, length-take-le, Consumes-trans, Consumes, TakesBytes, Consumes-nil, Keeps, TakesFew}
use Rattle.std.proofs.lemmas.List.Elements.{All-nil, All-append, All-take, All-from_get_or}
use Rattle.std.specs.Io.KnownBytes.{ReadConsumes}
use Rattle.std.specs.Io.{ReadsAtMost}
use Rattle.mig_bytes.specs.Bytes.{AreBytes, PassesOver}

pub takes_none : (a : Option (List ℕ)) → TakesBytes a a
takes_none a = record { taken = []; bytes = All-nil (λ b. b < 256); gone = Consumes-nil a }

pub takes_more : (a b c : Option (List ℕ)) → TakesBytes a b → TakesBytes b c → TakesBytes a c
takes_more a b c p q = record {
  taken = p.taken ++ q.taken;
  bytes = All-append (λ b. b < 256) p.taken q.taken p.bytes q.bytes;
  gone = Consumes-trans a b c p.taken q.taken p.gone q.gone;
}

-- the front of a buffer
pub takes_front : (a b : Option (List ℕ)) (n : ℕ) (buf : List ℕ) → ((i : ℕ) → get_or buf i 0 < 256) → Consumes a b (take n buf) → TakesBytes a b
takes_front a b n buf bytes gone = record { taken = take n buf; bytes = All-take (λ b. b < 256) n buf (All-from_get_or (λ b. b < 256) buf 0 (λ i _. bytes i)); gone = gone }

-- ---- no more than so many

kept_on : (a b c : Option (List ℕ)) (xs : List ℕ) → Keeps b c → Consumes a b xs → Consumes a c xs
kept_on None b c xs k h = tt
kept_on (Some l) None c xs k h = absurd h
kept_on (Some l) (Some m) None xs k h = absurd k
kept_on (Some l) (Some m) (Some n) xs k h = h ∙ ap (λ r. xs ++ r) (sym k)

keeps_none : (b c : Option (List ℕ)) (xs : List ℕ) → Consumes b c (take 0 xs) → Keeps b c
keeps_none None c xs h = tt
keeps_none (Some l) None xs h = absurd h
keeps_none (Some l) (Some m) xs h = sym h

pub few_kept : (a b c : Option (List ℕ)) (n m : ℕ) (buf : List ℕ) → n ≤ length buf → n ≤ m → Consumes a b (take n buf) → Keeps b c → TakesFew m a c
few_kept a b c n m buf within few h k = record { taken = take n buf; few = omega (arith, length-take-le n buf within, few); gone = kept_on a b c (take n buf) k h }

pub few_none : (a b c : Option (List ℕ)) (n m k : ℕ) (buf xs : List ℕ) → n ≤ length buf → n ≤ m → k ≡ 0 → Consumes a b (take n buf) → Consumes b c (take k xs) → TakesFew m a c
few_none a b c n m k buf xs within few zero h more = few_kept a b c n m buf within few h (keeps_none b c xs (subst (λ i. Consumes b c (take i xs)) zero more))

-- of n some are gone, and at most k of the others
pub few_more : (a b c : Option (List ℕ)) (gone : List ℕ) (n left k : ℕ) → length gone + left ≡ n → k ≤ left → Consumes a b gone → TakesFew k b c → TakesFew n a c
few_more a b c gone n left k count le before t = record {
  taken = gone ++ t.taken;
  few = omega (arith, length-append gone t.taken, count, le, t.few);
  gone = Consumes-trans a b c gone t.taken before t.gone;
}

-- ---- bytes that are passed over

-- some first bytes of a buffer that were read are passed over
pub passed_over : {E : Type 0} (old new : Option (List ℕ)) (most : ℕ) (buf : List ℕ) (r : Result ℕ E) → AreBytes buf → (0 < most → 0 < length buf) → ReadsAtMost r buf → ReadConsumes old new r buf → PassesOver old new most r
passed_over old new most buf (Ok n) bytes room within h =
    ((take n buf, All-take (λ b. b < 256) n buf bytes, length-take-le n buf within.0, h.0), λ none some. h.1 none (room some))
passed_over old new most buf (Err e) bytes room within h = h
