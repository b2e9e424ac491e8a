-- A line of a log has one event, or one clock value, and nothing else.
use Rattle.std.proofs.Common.{◌≡◌, ℕ, ◌<◌, ◌≤◌, ◌^◌, List, [], ◌∷◌, drop, get_or, sym, ap, subst, ◌∙◌, arith, inl, inr}
use Rattle.std.specs.Fmt.{decimal}
use Rattle.std.proofs.lemmas.Fmt.{decimal_injective}
use Rattle.machine.specs.Events as machine
use Rattle.frames.specs.Octets.{RawEvent, RawFrame, RawExpire, RawChange}
use Rattle.records.proofs.AgainFields.{imsi_again, number_again}
use Rattle.records.proofs.AgainLines.{codes_again}
use Rattle.texts.specs.Lines.{parts}
use Rattle.hlr_input.specs.Script.{Line, Frame, Clock, Expire, Batch, Codes, Withdraw, Say, IsLine}
use Rattle.hlr_input.proofs.LineLaws.{begins_with, kind_of, some_read, written}
use Rattle.hlr_input.proofs.OctetLaws.{octets_again}
use Rattle.embed.specs.LogLines.{AreOctets, IsClockLine, IsEventLine, IsExpiryLine, Means}

-- ---- what the fields say

frame_once : (fields : List (List ℕ)) (f o g p : List ℕ) → Say fields (Frame f o) → Say fields (Frame g p) → (f ≡ g) × (o ≡ p)
frame_once [] f o g p s t = absurd s
frame_once (k ∷ []) f o g p s t = absurd s
frame_once (k ∷ n ∷ []) f o g p s t = absurd s
frame_once (k ∷ n ∷ field ∷ []) f o g p s t =
    (some_read _ f g (number_again n f s.1) (number_again n g t.1), sym s.2 ∙ t.2)
frame_once (k ∷ n ∷ field ∷ more ∷ rest) f o g p s t = absurd s

codes_once : (fields : List (List ℕ)) (i c j d : List ℕ) → Say fields (Codes i c) → Say fields (Codes j d) → (i ≡ j) × (c ≡ d)
codes_once [] i c j d s t = absurd s
codes_once (k ∷ []) i c j d s t = absurd s
codes_once (k ∷ n ∷ []) i c j d s t = absurd s
codes_once (k ∷ n ∷ field ∷ []) i c j d s t =
    (some_read _ i j (imsi_again n i s.1) (imsi_again n j t.1), some_read _ c d (codes_again field c s.2) (codes_again field d t.2))
codes_once (k ∷ n ∷ field ∷ more ∷ rest) i c j d s t = absurd s

withdraw_once : (fields : List (List ℕ)) (i j : List ℕ) → Say fields (Withdraw i) → Say fields (Withdraw j) → i ≡ j
withdraw_once [] i j s t = absurd s
withdraw_once (k ∷ []) i j s t = absurd s
withdraw_once (k ∷ n ∷ []) i j s t = some_read _ i j (imsi_again n i s.1) (imsi_again n j t.1)
withdraw_once (k ∷ n ∷ field ∷ []) i j s t = absurd s
withdraw_once (k ∷ n ∷ field ∷ more ∷ rest) i j s t = absurd s

decimal_once : (m n : ℕ) → m ≤ 2 ^ 62 → n ≤ 2 ^ 62 → decimal m ≡ decimal n → m ≡ n
decimal_once m n low high e =
    let small : 2 ^ 62 < 2 ^ 64 = omega arith in
    decimal_injective m n (omega (arith, low, small)) (omega (arith, high, small)) e

clock_said_once : (fields : List (List ℕ)) (m n : ℕ) → Say fields (Clock m) → Say fields (Clock n) → m ≡ n
clock_said_once [] m n s t = absurd s
clock_said_once (k ∷ []) m n s t = absurd s
clock_said_once (k ∷ ticks ∷ []) m n s t = decimal_once m n s.1.most t.1.most (sym s.1.written_so ∙ t.1.written_so)
clock_said_once (k ∷ ticks ∷ field ∷ []) m n s t = absurd s
clock_said_once (k ∷ ticks ∷ field ∷ more ∷ rest) m n s t = absurd s

-- ---- a line's first character

kinds_same : (line : List ℕ) (a b : Line) → IsLine line a → IsLine line b → kind_of a ≡ kind_of b
kinds_same line a b s t =
    let p = begins_with line a (written line a s) in
    let q = begins_with line b (written line b t) in
    ap (λ (l : List ℕ). get_or l 0 0) (sym p.1 ∙ q.1)

expiry_kind : (line : List ℕ) (raw : RawEvent) (a : Line) → IsExpiryLine line raw → IsLine line a → 69 ≡ kind_of a
expiry_kind line raw a e s =
    let p = begins_with line a (written line a s) in
    ap (λ (l : List ℕ). get_or l 0 0) (sym e.2 ∙ p.1)

-- ---- events

octets_once : (field x y : List ℕ) → AreOctets field x → AreOctets field y → x ≡ y
octets_once field x y a b =
    some_read _ x y (octets_again [] field a.0 a.1 ∙ a.2) (octets_again [] field b.0 b.1 ∙ b.2)

frames_once : (f o g p : List ℕ) (x y : RawEvent) → f ≡ g → o ≡ p → Means (Frame f o) x → Means (Frame g p) y → x ≡ y
frames_once f o g p x y from field m w =
    let octets : m.0 ≡ w.0 = octets_once o m.0 w.0 m.1 (subst (λ (l : List ℕ). AreOctets l w.0) (sym field) w.1) in
    m.2 ∙ (λ i. RawFrame (from i) (octets i)) ∙ sym w.2

said_once : (line : List ℕ) (a b : Line) (x y : RawEvent) → IsLine line a → Means a x → IsLine line b → Means b y → x ≡ y
said_once line (Frame f o) (Frame g p) x y s m t w =
    let same = frame_once (parts 32 line) f o g p s t in frames_once f o g p x y same.0 same.1 m w
said_once line (Codes i c) (Codes j d) x y s m t w =
    let same = codes_once (parts 32 line) i c j d s t in m ∙ (λ k. RawChange (same.0 k) (machine.Codes (same.1 k))) ∙ sym w
said_once line (Withdraw i) (Withdraw j) x y s m t w =
    m ∙ ap (λ (l : List ℕ). RawChange l machine.Withdraw) (withdraw_once (parts 32 line) i j s t) ∙ sym w
said_once line (Frame f o) (Codes j d) x y s m t w = absurd (omega (arith, kinds_same line (Frame f o) (Codes j d) s t))
said_once line (Frame f o) (Withdraw j) x y s m t w = absurd (omega (arith, kinds_same line (Frame f o) (Withdraw j) s t))
said_once line (Codes i c) (Frame g p) x y s m t w = absurd (omega (arith, kinds_same line (Codes i c) (Frame g p) s t))
said_once line (Codes i c) (Withdraw j) x y s m t w = absurd (omega (arith, kinds_same line (Codes i c) (Withdraw j) s t))
said_once line (Withdraw i) (Frame g p) x y s m t w = absurd (omega (arith, kinds_same line (Withdraw i) (Frame g p) s t))
said_once line (Withdraw i) (Codes j d) x y s m t w = absurd (omega (arith, kinds_same line (Withdraw i) (Codes j d) s t))
said_once line (Frame f o) (Clock n) x y s m t w = absurd w
said_once line (Frame f o) Expire x y s m t w = absurd w
said_once line (Frame f o) Batch x y s m t w = absurd w
said_once line (Codes i c) (Clock n) x y s m t w = absurd w
said_once line (Codes i c) Expire x y s m t w = absurd w
said_once line (Codes i c) Batch x y s m t w = absurd w
said_once line (Withdraw i) (Clock n) x y s m t w = absurd w
said_once line (Withdraw i) Expire x y s m t w = absurd w
said_once line (Withdraw i) Batch x y s m t w = absurd w
said_once line (Clock n) b x y s m t w = absurd m
said_once line Expire b x y s m t w = absurd m
said_once line Batch b x y s m t w = absurd m

-- an expiry's line says nothing else
not_said : (line : List ℕ) (x : RawEvent) (b : Line) (y : RawEvent) → IsExpiryLine line x → IsLine line b → Means b y → ⊥
not_said line x (Frame g p) y e t w = absurd (omega (arith, expiry_kind line x (Frame g p) e t))
not_said line x (Codes j d) y e t w = absurd (omega (arith, expiry_kind line x (Codes j d) e t))
not_said line x (Withdraw j) y e t w = absurd (omega (arith, expiry_kind line x (Withdraw j) e t))
not_said line x (Clock n) y e t w = w
not_said line x Expire y e t w = w
not_said line x Batch y e t w = w

expiry_once : (line : List ℕ) (x y : RawEvent) → IsExpiryLine line x → IsExpiryLine line y → x ≡ y
expiry_once line x y e f =
    let printed : decimal e.0 ≡ decimal f.0 = ap (λ (l : List ℕ). drop 2 l) (sym e.2 ∙ f.2) in
    let shard : e.0 ≡ f.0 = decimal_once e.0 f.0 (omega (arith, e.1)) (omega (arith, f.1)) printed in
    e.3 ∙ ap (λ (n : ℕ). RawExpire n) shard ∙ sym f.3

pub event_once : (line : List ℕ) (x y : RawEvent) → IsEventLine line x → IsEventLine line y → x ≡ y
event_once line x y (inl a) (inl b) = said_once line a.0 b.0 x y a.1 a.2 b.1 b.2
event_once line x y (inl a) (inr f) = absurd (not_said line y a.0 x f a.1 a.2)
event_once line x y (inr e) (inl b) = absurd (not_said line x b.0 y e b.1 b.2)
event_once line x y (inr e) (inr f) = expiry_once line x y e f

-- ---- clock values

pub clock_once : (line : List ℕ) (m n : ℕ) → IsClockLine line m → IsClockLine line n → m ≡ n
clock_once line m n s t = clock_said_once (parts 32 line) m n s t

no_clock_said : (line : List ℕ) (a : Line) (x : RawEvent) (n : ℕ) → IsLine line a → Means a x → IsClockLine line n → ⊥
no_clock_said line (Frame f o) x n s m t = absurd (omega (arith, kinds_same line (Frame f o) (Clock n) s t))
no_clock_said line (Codes i c) x n s m t = absurd (omega (arith, kinds_same line (Codes i c) (Clock n) s t))
no_clock_said line (Withdraw i) x n s m t = absurd (omega (arith, kinds_same line (Withdraw i) (Clock n) s t))
no_clock_said line (Clock k) x n s m t = m
no_clock_said line Expire x n s m t = m
no_clock_said line Batch x n s m t = m

-- a line with an event has no clock value
pub event_or_clock : (line : List ℕ) (x : RawEvent) (n : ℕ) → IsEventLine line x → IsClockLine line n → ⊥
event_or_clock line x n (inl a) t = no_clock_said line a.0 x n a.1 a.2 t
event_or_clock line x n (inr e) t = absurd (omega (arith, expiry_kind line x (Clock n) e t))
