-- An identity is read exactly if the octets are its form.
use Rattle.std.proofs.Common.{◌≡◌, ℕ, ◌≤◌, Bool, true, false, ◌&&◌, leb, cond, List, [], ◌∷◌, length, refl, ap, sym, ◌∙◌, subst, arith, lit≤}
use Rattle.std.specs.Prelude.{Result, Ok, Err, Option, Some, None, option_and_then}
use Rattle.std.specs.Result.{result_ok}
use Rattle.std.proofs.lemmas.Bool.{leb-true, le-leb}
use Rattle.hlr_types.specs.declared.tbcd.TbcdFault.TheVariants.{BadCount}
use Rattle.hlr_types.specs.declared.address.TheConstants.{INTERNATIONAL_E164}
use Rattle.hlr_types.specs.Tbcd.{IsTbcd, digits_of, tbcd}
use Rattle.hlr_types.specs.Digits.{AreSomeDigits, AreImsiDigits}
use Rattle.hlr_types.specs.Identities.{imsi_from, imsi_of, address_of, address_octets, lmsi_of, remote_id_of, IsImsi, IsAddress, IsLmsi, IsRemoteId, AreImsiForms, AreAddressForms}
use Rattle.hlr_types.proofs.TbcdLaws.{digits_found, digits_again, length_tbcd_least, same_text}
use Rattle.hlr_types.proofs.TbcdLemmas.{length_tbcd}

-- A test of a length between two bounds that succeeds.
between : {A : Type 0} (m n k : ℕ) (x y : A) (low high : Bool) → leb m n ≡ low → leb n k ≡ high → cond (low && high) (Some x) None ≡ Some y
    → (m ≤ n) × (n ≤ k) × (x ≡ y)
between m n k x y true true l h e = (leb-true _ _ l, leb-true _ _ h, cc)
between m n k x y true false l h e = absurd cc
between m n k x y false high l h e = absurd cc

pub lmsi_found : (octets l : List ℕ) → lmsi_of octets ≡ Some l → IsLmsi octets l
lmsi_found octets l e =
    let b = between 4 (length octets) 4 octets l (leb 4 (length octets)) (leb (length octets) 4) refl refl e in
    record { same = b.2; count = sym (ap length b.2) ∙ omega arith }

pub lmsi_again : (octets l : List ℕ) → IsLmsi octets l → lmsi_of octets ≡ Some l
lmsi_again octets l is =
    let low : leb 4 (length l) ≡ true = le-leb _ _ (omega arith) in
    let high : leb (length l) 4 ≡ true = le-leb _ _ (omega arith) in
    rw (is.same, low, high) refl

pub ruleset lmsi_laws = (lmsi_found, lmsi_again)

pub remote_id_found : (octets id : List ℕ) → remote_id_of octets ≡ Some id → IsRemoteId octets id
remote_id_found octets id e =
    let b = between 1 (length octets) 4 octets id (leb 1 (length octets)) (leb (length octets) 4) refl refl e in
    let len = ap length b.2 in
    record { same = b.2; least = omega (arith, len, b.0); most = omega (arith, len, b.1) }

pub remote_id_again : (octets id : List ℕ) → IsRemoteId octets id → remote_id_of octets ≡ Some id
remote_id_again octets id is =
    let low : leb 1 (length id) ≡ true = le-leb _ _ is.least in
    let high : leb (length id) 4 ≡ true = le-leb _ _ is.most in
    rw (is.same, low, high) refl

pub remote_id_is : (id : List ℕ) → 1 ≤ length id → length id ≤ 4 → IsRemoteId id id
remote_id_is id least most = record { same = refl; least = least; most = most }

pub ruleset remote_id_laws = (remote_id_found, remote_id_again, remote_id_is)

-- The digits from which a value was read.
ok_then : {E : Type 0} (r : Result (List ℕ) E) (f : List ℕ → Option (List ℕ)) (y : List ℕ) → option_and_then f (result_ok r) ≡ Some y
    → (x : List ℕ) × (r ≡ Ok x) × (f x ≡ Some y)
ok_then (Ok x) f y e = (x, refl, e)
ok_then (Err d) f y e = absurd cc

imsi_from-ok : (d x : List ℕ) (low high : Bool) → leb 5 (length d) ≡ low → leb (length d) 15 ≡ high
    → result_ok (cond (low && high) (Ok d) (Err BadCount)) ≡ Some x → AreImsiDigits d × (d ≡ x)
imsi_from-ok d x true true l h e = (record { least = leb-true _ _ l; most = leb-true _ _ h }, cc)
imsi_from-ok d x true false l h e = absurd cc
imsi_from-ok d x false high l h e = absurd cc

pub imsi_found : (octets d : List ℕ) → imsi_of octets ≡ Some d → IsImsi octets d
imsi_found octets d e =
    let (x, is_x, e1) = ok_then (digits_of octets) (λ digits. result_ok (imsi_from digits)) d e in
    let (count, same) = imsi_from-ok x d (leb 5 (length x)) (leb (length x) 15) refl refl e1 in
    record { spelled = subst (IsTbcd octets) same (digits_found octets x is_x); count = subst AreImsiDigits same count }

pub imsi_again : (octets d : List ℕ) → IsImsi octets d → imsi_of octets ≡ Some d
imsi_again octets d is =
    let low : leb 5 (length d) ≡ true = le-leb _ _ is.count.least in
    let high : leb (length d) 15 ≡ true = le-leb _ _ is.count.most in
    ap (λ r. option_and_then (λ digits. result_ok (imsi_from digits)) (result_ok r)) (digits_again octets d is.spelled) ∙ rw (low, high) refl

pub imsi_is : (d : List ℕ) → AreSomeDigits d → AreImsiDigits d → IsImsi (tbcd d) d
imsi_is d some count = record { spelled = record { some = some; spelled = refl }; count = count }

pub ruleset imsi_laws = (imsi_found, imsi_again, imsi_is)

result_ok-some : {A E : Type 0} (r : Result A E) (x : A) → result_ok r ≡ Some x → r ≡ Ok x
result_ok-some (Ok y) x e = cc
result_ok-some (Err d) x e = absurd cc

high-in : (nature : ℕ) (rest d : List ℕ) (high : Bool) → leb 128 nature ≡ high → cond high (result_ok (digits_of rest)) None ≡ Some d
    → (128 ≤ nature) × (digits_of rest ≡ Ok d)
high-in nature rest d true h e = (leb-true _ _ h, result_ok-some _ _ e)
high-in nature rest d false h e = absurd cc

pub address_found : (octets d : List ℕ) → address_of octets ≡ Some d → IsAddress octets d
address_found [] d e = absurd cc
address_found (nature ∷ rest) d e =
    let (high, digits) = high-in nature rest d (leb 128 nature) refl e in
    record { nature = nature; rest = rest; whole = refl; high = high; spelled = digits_found rest d digits }

pub address_again : (octets d : List ℕ) → IsAddress octets d → address_of octets ≡ Some d
address_again octets d is =
    let high : leb 128 is.nature ≡ true = le-leb _ _ is.high in
    rw (is.whole, high, digits_again is.rest d is.spelled) refl

pub address_is : (d : List ℕ) → AreSomeDigits d → IsAddress (address_octets d) d
address_is d some = record {
  nature = INTERNATIONAL_E164;
  rest = tbcd d;
  whole = refl;
  high = lit≤ tt;
  spelled = record { some = some; spelled = refl };
}

pub ruleset address_laws = (address_found, address_again, address_is)

-- ---- the laws of forms

imsi_octets : (octets d : List ℕ) → IsImsi octets d → (3 ≤ length octets) × (length octets ≤ 8)
imsi_octets octets d is =
    let len = ap length is.spelled.spelled in
    (omega (arith, len, length_tbcd_least d, is.count.least), omega (arith, len, length_tbcd d, is.count.most))

pub are_imsi_forms : AreImsiForms
are_imsi_forms = record {
  has_form = imsi_is;
  few_octets = imsi_octets;
  one_form = λ d octets others is also. is.spelled.spelled ∙ sym also.spelled.spelled;
  one_text = λ octets d e is also. same_text octets d e is.spelled also.spelled;
}

pub ruleset imsi_forms = (are_imsi_forms)

address_octets_count : (octets d : List ℕ) → IsAddress octets d → (2 ≤ length octets) × (length octets ≤ 9)
address_octets_count octets d is =
    let len = ap length is.whole in
    let rest = ap length is.spelled.spelled in
    (omega (arith, len, rest, length_tbcd_least d, is.spelled.some.some), omega (arith, len, rest, length_tbcd d, is.spelled.some.most))

one_address : (octets d e : List ℕ) → IsAddress octets d → IsAddress octets e → d ≡ e
one_address octets d e is also =
    let read : Some d ≡ Some e = sym (address_again octets d is) ∙ address_again octets e also in
    cc

pub are_address_forms : AreAddressForms
are_address_forms = record {
  sent_is_read = λ d some. address_again (address_octets d) d (address_is d some);
  few_octets = address_octets_count;
  one_text = one_address;
}

pub ruleset address_forms = (are_address_forms)
