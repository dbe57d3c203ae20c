-- One more entry of a chain, and where the chain ends.
use Rattle.std.proofs.Common.{◌≡◌, ℕ, ◌+◌, ◌-◌, ◌<◌, ◌≤◌, List, length, Option, Some, None, Result, Ok, Err, Bool, true, false, is_some, refl, sym, subst, cond, arith, [], ◌∷◌, not, nat_eq, nat_lt, nat_le, ltb-false}
use Rattle.mig_headers.proofs.Common.{◌&&◌, eqb-true, common_steps, here, next}
use Rattle.mig_bytes.specs.Fields.{le16, le32}
use Rattle.mig_bytes.proofs.Walks.{walk_end_ends, walk_end_reached, walk_end_is}
use Rattle.mig_headers.specs.declared.fault.ContextFault.TheVariants.{NoHeader, HeaderSize, ShortEntry, NoEnd}
use Rattle.mig_bytes.specs.Walk.{walk_end}
use Rattle.mig_headers.specs.declared.fault.ContextFault.{ContextFault}
use Rattle.mig_headers.proofs.FirstFaults.{rows_fine, no_fault}
use Rattle.mig_headers.specs.Contexts.{ChainTo, Scanned, scan, scan_at, fault_at, is_last, entry_end, after_entry}

stepped : (bytes : List ℕ) (o : ℕ) → fault_at bytes o ≡ None → is_last bytes o ≡ false → after_entry bytes o ≡ Some (entry_end bytes o)
unfolding after_entry
stepped bytes o fine goes = rw (fine, goes) refl

pub chain_more : (bytes : List ℕ) (o t : ℕ) → ChainTo bytes o → fault_at bytes o ≡ None → is_last bytes o ≡ false → t ≡ entry_end bytes o → ChainTo bytes t
chain_more bytes o t chain fine goes is = subst (ChainTo bytes) (sym is) (next o (entry_end bytes o) chain (stepped bytes o fine goes))

stops_at_last : (bytes : List ℕ) (o : ℕ) → is_last bytes o ≡ true → fault_at bytes o ≡ None → after_entry bytes o ≡ None
unfolding after_entry
stops_at_last bytes o last fine = rw (fine, last) refl

stops_at_fault : (bytes : List ℕ) (o : ℕ) (f : ContextFault) → fault_at bytes o ≡ Some f → after_entry bytes o ≡ None
unfolding after_entry
stops_at_fault bytes o f fault = rw fault refl

within : (bytes : List ℕ) (o : ℕ) → fault_at bytes o ≡ None → o < length bytes
unfolding fault_at
within bytes o fine = grind (arith, common_steps)

pub none_of : (f : Option ContextFault) → is_some f ≡ false → f ≡ None
none_of None e = refl
none_of (Some f) e = cc

pub gone : (a b : Bool) (e t : ℕ) → cond a None (cond b None (Some e)) ≡ Some t → (a ≡ false) × (e ≡ t)
gone true b e t h = (cc, cc)
gone false true e t h = (cc, cc)
gone false false e t h = (refl, cc)

pub not_last : (a b : Bool) (e u : ℕ) → cond a None (cond b None (Some e)) ≡ Some u → b ≡ false
not_last a false e u h = refl
not_last true true e u h = let no : ◌≡◌ {A = Option ℕ} None (Some u) = h in cc
not_last false true e u h = let no : ◌≡◌ {A = Option ℕ} None (Some u) = h in cc

pub falls : (bytes : List ℕ) (o t : ℕ) → after_entry bytes o ≡ Some t → length bytes - t < length bytes - o
unfolding after_entry
falls bytes o t goes =
    let (fine, is) = gone (is_some (fault_at bytes o)) (is_last bytes o) (entry_end bytes o) t goes in
    omega (arith, within bytes o (none_of (fault_at bytes o) fine), is)

ends : (bytes : List ℕ) (o : ℕ) → ChainTo bytes o → after_entry bytes o ≡ None → walk_end (after_entry bytes) (length bytes) 0 ≡ o
ends bytes o chain stops = walk_end_is (after_entry bytes) (λ i. length bytes - i) (falls bytes) (length bytes) 0 o (omega arith) chain stops

scan_where : (bytes : List ℕ) (o : ℕ) (fault : Option ContextFault) → walk_end (after_entry bytes) (length bytes) 0 ≡ o → fault_at bytes o ≡ fault → scan bytes ≡ scan_at o fault
unfolding scan
scan_where bytes o fault end is = rw (end, is) refl

pub scan_is : (bytes : List ℕ) (r : Result ℕ ContextFault) → Scanned bytes r → r ≡ scan bytes
scan_is bytes (Ok o) (chain, fine, last) = sym (scan_where bytes o None (ends bytes o chain (stops_at_last bytes o last fine)) fine)
scan_is bytes (Err f) (o, chain, fault) = sym (scan_where bytes o (Some f) (ends bytes o chain (stops_at_fault bytes o f fault)) fault)

-- ---- a chain, cut at its end

rows : List ℕ → ℕ → List (Bool × ContextFault)
rows bytes o =
    (nat_le (length bytes) o && nat_eq o 0, NoHeader)
    ∷ (nat_le (length bytes) o, NoEnd)
    ∷ (nat_lt (length bytes) (o + 8), ShortEntry o)
    ∷ (nat_eq o 0 && not (nat_eq (le16 bytes 0) 1), NoHeader)
    ∷ (nat_eq o 0 && not (nat_eq (le32 bytes 4) 24), HeaderSize (le32 bytes 4))
    ∷ (not (is_last bytes o) && nat_lt (length bytes) (entry_end bytes o), ShortEntry o)
    ∷ []

-- an entry without fault
pub record Sound (bytes : List ℕ) (o : ℕ) : Type 0 where
  pub r1 : (nat_le (length bytes) o && nat_eq o 0) ≡ false
  pub r2 : nat_le (length bytes) o ≡ false
  pub r3 : nat_lt (length bytes) (o + 8) ≡ false
  pub r4 : (nat_eq o 0 && not (nat_eq (le16 bytes 0) 1)) ≡ false
  pub r5 : (nat_eq o 0 && not (nat_eq (le32 bytes 4) 24)) ≡ false
  pub r6 : (not (is_last bytes o) && nat_lt (length bytes) (entry_end bytes o)) ≡ false

pub sound_of : (bytes : List ℕ) (o : ℕ) → fault_at bytes o ≡ None → Sound bytes o
unfolding fault_at rows
sound_of bytes o h = let a = rows_fine (rows bytes o) h in record { r1 = a.0; r2 = a.1.0; r3 = a.1.1.0; r4 = a.1.1.1.0; r5 = a.1.1.1.1.0; r6 = a.1.1.1.1.1.0 }

pub fine_of : (bytes : List ℕ) (o : ℕ) → Sound bytes o → fault_at bytes o ≡ None
unfolding fault_at rows
fine_of bytes o s = no_fault (rows bytes o) (s.r1, (s.r2, (s.r3, (s.r4, (s.r5, (s.r6, tt))))))

last_of : (bytes : List ℕ) (o : ℕ) (f : Option ContextFault) (b : Bool) → f ≡ None → cond (is_some f) None (cond b None (Some (entry_end bytes o))) ≡ None → b ≡ true
last_of bytes o f true e h = refl
last_of bytes o None false e h = let no : ◌≡◌ {A = Option ℕ} (Some (entry_end bytes o)) None = h in cc
last_of bytes o (Some f) false e h = cc

found_at : (bytes : List ℕ) (w o : ℕ) (f : Option ContextFault) → fault_at bytes w ≡ f → scan_at w f ≡ Ok o → (w ≡ o) × (fault_at bytes w ≡ None)
found_at bytes w o None is h = (cc, is)
found_at bytes w o (Some f) is h = let no : ◌≡◌ {A = Result ℕ ContextFault} (Err f) (Ok o) = h in (cc, cc)

-- where the scan says that the chain ends, it ends
pub scan_found : (bytes : List ℕ) (o : ℕ) → scan bytes ≡ Ok o → Scanned bytes (Ok o)
unfolding scan after_entry
scan_found bytes o h =
    let w = walk_end (after_entry bytes) (length bytes) 0 in
    let (is, fine) = found_at bytes w o (fault_at bytes w) refl h in
    let stops = walk_end_ends (after_entry bytes) (λ i. length bytes - i) (falls bytes) (length bytes) 0 (omega arith) in
    subst (λ n. ChainTo bytes n × (fault_at bytes n ≡ None) × (is_last bytes n ≡ true)) is
    (walk_end_reached (after_entry bytes) (length bytes) 0 0 here, fine, last_of bytes w (fault_at bytes w) (is_last bytes w) fine stops)

pub le_false : (n m : ℕ) → m < n → nat_le n m ≡ false
le_false n m h = grind (arith, common_steps)

pub lt_false : (n m : ℕ) → m ≤ n → nat_lt n m ≡ false
lt_false n m h = grind (arith, common_steps)

pub and_false : (b c : Bool) → (b ≡ true → c ≡ false) → (b && c) ≡ false
and_false true c h = h refl
and_false false c h = refl

pub then_false : (b c : Bool) → (b && c) ≡ false → b ≡ true → c ≡ false
then_false true c h e = h
then_false false c h e = cc

pub not_first : (bytes : List ℕ) (o : ℕ) → Sound bytes o → is_last bytes o ≡ true → (b : Bool) → nat_eq o 0 ≡ b → b ≡ false
not_first bytes o s last false is = refl
not_first bytes o s last true is =
    let one = then_false (nat_eq o 0) _ s.r4 is in
    let none : nat_eq (le16 bytes 0) 0 ≡ true = subst (λ n. is_last bytes n ≡ true) (eqb-true o 0 is) last in
    apart (le16 bytes 0) one none
  where
    apart : (n : ℕ) → not (nat_eq n 1) ≡ false → nat_eq n 0 ≡ true → true ≡ false
    apart n p q = grind (arith, common_steps)

-- its end leaves room for 8 bytes
pub end_fits : (bytes : List ℕ) (o : ℕ) → scan bytes ≡ Ok o → o + 8 ≤ length bytes
end_fits bytes o h = ltb-false (length bytes) (o + 8) (sound_of bytes o (scan_found bytes o h).1).r3
