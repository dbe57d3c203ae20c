use Rattle.mig_libxl_form.proofs.Common.{◌≡◌, ◌<◌, ◌≤◌, length, Some, None, List, [], ℕ, sym, ap, subst, ◌∙◌, arith, is_some, nat_eq, false, cond, Result, Ok, Err, common_steps, eqb-true, pairs_fault, PairMap, put_pairs, text_of_map, some_bytes_are_some_pairs, part_cmp, PartKey, add_pairs, store_at, nil_from_length, is_at, on_err_weaker, pairs_in, stores_seen, most_pairs, OnOk, IsErrAnd, IsErrOf, option_copied_mut, on_ok_weaker}
use Rattle.std.specs.declared.alloc.Global.{Global}
use Rattle.std.specs.declared.collections.btree_map.BTreeMap.{BTreeMap}
use Rattle.mig_policy.proofs.PairTrees.{empty_len}
use Rattle.mig_policy.specs.declared.pair_map.PairsAnswer.TheVariants.{TooMany}
use Rattle.mig_libxl_form.proofs.Begun.{after_error, none_added, store_begun}
use Rattle.mig_libxl_form.proofs.Stores.{no_pairs, store_in, store_found, store_set}
use Rattle.std.specs.FinMap as maps
use Rattle.mig_libxl_form.proofs.emulators.Emulators.add_pairs.Goals as goal

some_pairs : (bytes : List ℕ) → pairs_fault bytes ≡ None → nat_eq (length bytes) 0 ≡ false → 0 < length (pairs_in bytes)
some_pairs bytes none some = some_bytes_are_some_pairs.some bytes none (positive (length bytes) some)
  where
    positive : (n : ℕ) → nat_eq n 0 ≡ false → 0 < n
    positive n some = grind (arith, common_steps, some)

same_error : {E : Type 0} (r : Result (Unit {0}) E) (e f : E) → IsErrAnd r (λ x. x ≡ e) → IsErrOf r f → IsErrOf {T = Unit {0}} (Err e) f
same_error (Ok v) e f is of = absurd is
same_error (Err x) e f is of = ap (λ e. Err e) (sym is) ∙ of

fits_too : {E : Type 0} (r : Result (Unit {0}) E) (m all : PairMap) → OnOk r (m ≡ all) → OnOk r (length (text_of_map m) ≤ most_pairs) → OnOk r (length (text_of_map all) ≤ most_pairs)
fits_too (Ok v) m all is fits = subst (λ (n : PairMap). length (text_of_map n) ≤ most_pairs) is fits
fits_too (Err e) m all is fits = tt

pub returns-then-is_empty-clause-ok : goal.returns-then-is_empty-clause-ok
returns-then-is_empty-clause-ok c =
    let empty : c.args.bytes.now ≡ [] = nil_from_length c.args.bytes.now (eqb-true (length c.args.bytes.now) 0 (sym c.is_empty.ensures ∙ c.if-is_empty.true)) in
    sym (ap (add_pairs c.args.self.now c.args.key) (ap pairs_in empty ∙ no_pairs))

pub returns-then-is_empty-clause-fits : goal.returns-then-is_empty-clause-fits
returns-then-is_empty-clause-fits c =
    let empty : c.args.bytes.now ≡ [] = nil_from_length c.args.bytes.now (eqb-true (length c.args.bytes.now) 0 (sym c.is_empty.ensures ∙ c.if-is_empty.true)) in
    let store = store_at c.args.self.now.stores c.args.key in
    let same : put_pairs store (pairs_in c.args.bytes.now) ≡ store = ap (put_pairs store) (ap pairs_in empty ∙ no_pairs) in
    rw same c.requires.small

pub add-requires : goal.add-requires
add-requires c =
    let here = store_found c.self.inside.stores.entries c.self.inside.contexts c.args.self.now c.self.view_is c.args.key _ (sym c.get_mut.ensures.value ∙ ap option_copied_mut c.in-Some.is) in
    record { small = rw (← here) c.requires.small }

pub returns-in-Some-clause-ok : goal.returns-in-Some-clause-ok
returns-in-Some-clause-ok c =
    let es = c.self.inside.stores.entries in
    let at_key = sym c.get_mut.ensures.value ∙ ap option_copied_mut c.in-Some.is in
    let here = store_found es c.self.inside.contexts c.args.self.now c.self.view_is c.args.key _ at_key in
    let new = c.add.new.self in
    on_ok_weaker c.add.result (λ is. store_set es c.self.inside.contexts c.args.self.now c.self.view_is c.args.key (c.get_mut.follows.lender new).entries c.in-Some.store.now new (pairs_in c.args.bytes.now) ((c.get_mut.follows.holds new).3 (ap is_some at_key)).0 here is
    (some_pairs c.args.bytes.now c.requires.faultless (sym c.is_empty.ensures ∙ c.if-is_empty.false))) c.add.ensures.ok

pub returns-in-Some-clause-fits : goal.returns-in-Some-clause-fits
returns-in-Some-clause-fits c =
    let here = store_found c.self.inside.stores.entries c.self.inside.contexts c.args.self.now c.self.view_is c.args.key _ (sym c.get_mut.ensures.value ∙ ap option_copied_mut c.in-Some.is) in
    let fits = fits_too c.add.result c.add.new.self (put_pairs c.in-Some.store.now (pairs_in c.args.bytes.now)) c.add.ensures.ok c.add.ensures.fits in
    rw here fits

pub returns-in-Some-clause-too_many : goal.returns-in-Some-clause-too_many
returns-in-Some-clause-too_many c =
    let here = store_found c.self.inside.stores.entries c.self.inside.contexts c.args.self.now c.self.view_is c.args.key _ (sym c.get_mut.ensures.value ∙ ap option_copied_mut c.in-Some.is) in
    rw here c.add.ensures.too_many

pub add-requires-2 : goal.add-requires-2
add-requires-2 c = record { small = omega (arith, empty_len c.new-store.result c.new-store.ensures) }

pub returns-in_err-add-clause-too_many : goal.returns-in_err-add-clause-too_many
returns-in_err-add-clause-too_many c =
    let es = c.self.inside.stores.entries in
    let at_key = sym c.get_mut.ensures.value ∙ ap option_copied_mut c.in_default.is in
    let here = store_found es c.self.inside.contexts c.args.self.now c.self.view_is c.args.key _ at_key in
    λ of. rw here (subst (λ (m : PairMap). most_pairs < length (text_of_map (put_pairs m (pairs_in c.args.bytes.now)))) c.new-store.ensures (c.in_err-add.ensures.too_many (same_error c.from_residual.result c.in_err-add.field-0.0 TooMany c.from_residual.ensures.1 of)))

pub returns-in-Ok-clause-ok : goal.returns-in-Ok-clause-ok
returns-in-Ok-clause-ok c =
    let es = c.self.inside.stores.entries in
    let at_key = sym c.get_mut.ensures.value ∙ ap option_copied_mut c.in_default.is in
    let here = store_found es c.self.inside.contexts c.args.self.now c.self.view_is c.args.key _ at_key in
    store_set es c.self.inside.contexts c.args.self.now c.self.view_is c.args.key c.insert.new.self.entries maps.empty c.add-2.new.self (pairs_in c.args.bytes.now) (λ q. c.in-Ok.ensures.updates.0 q ∙ ap (λ (m : BTreeMap PartKey PairMap Global). cond (is_at (part_cmp c.args.key) q) (Some c.add-2.new.self) (store_in m.entries q)) c.get_mut.follows.holds-at-none) here
    (c.in_ok-add.ensures.ok ∙ ap (λ (m : PairMap). put_pairs m (pairs_in c.args.bytes.now)) c.new-store.ensures)
    (some_pairs c.args.bytes.now c.requires.faultless (sym c.is_empty.ensures ∙ c.if-is_empty.false))

pub returns-in-Ok-clause-fits : goal.returns-in-Ok-clause-fits
returns-in-Ok-clause-fits c =
    let es = c.self.inside.stores.entries in
    let at_key = sym c.get_mut.ensures.value ∙ ap option_copied_mut c.in_default.is in
    let here = store_found es c.self.inside.contexts c.args.self.now c.self.view_is c.args.key _ at_key in
    let is = c.in_ok-add.ensures.ok in
    let fits = c.in_ok-add.ensures.fits in
    rw here (subst (λ (m : PairMap). length (text_of_map m) ≤ most_pairs) (is ∙ ap (λ (m : PairMap). put_pairs m (pairs_in c.args.bytes.now)) c.new-store.ensures) fits)

pub returns-in-Some-clause-err : goal.returns-in-Some-clause-err
returns-in-Some-clause-err c =
    let es = c.self.inside.stores.entries in
    let at_key = sym c.get_mut.ensures.value ∙ ap option_copied_mut c.in-Some.is in
    let new = c.add.new.self in
    on_err_weaker c.add.result (store_begun es c.self.inside.contexts c.args.self.now c.self.view_is c.args.key (c.get_mut.follows.lender new).entries c.in-Some.store.now new (pairs_in c.args.bytes.now) ((c.get_mut.follows.holds new).3 (ap is_some at_key)).0 at_key) c.add.ensures.err

pub returns-in_err-add-clause-err : goal.returns-in_err-add-clause-err
returns-in_err-add-clause-err c =
    let unchanged = ap (λ (m : BTreeMap PartKey PairMap Global). record { stores = stores_seen m.entries; contexts = c.self.inside.contexts }) c.get_mut.follows.holds-at-none ∙ c.self.view_is in
    after_error c.from_residual.result (none_added c.args.self.now _ c.args.key (pairs_in c.args.bytes.now) unchanged)
