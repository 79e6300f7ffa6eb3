-- The tests of a board's rules decide what a valid board is.
use Rattle.std.proofs.Common.{◌≡◌, ◌⊎◌, inl, inr, ◌↔◌, ℕ, zero, suc, ◌+◌, ◌-◌, ◌*◌, ◌/◌, ◌%◌, ◌^◌, ◌<◌, ◌≤◌, ◌==◌, nat_le, nat_lt, Bool, true, false, not, ◌&&◌, ◌||◌, if◌then◌else◌, List, [], ◌∷◌, length, map, get_or, replicate, Option, Some, None, refl, sym, ap, subst, ◌∙◌, arith, Decides, Contains, mod-lt, string_bytes}
use Rattle.std.specs.List.{All, list_all, list_any, range_with_len, IsAllAdjacentAnswer}
use Rattle.std.specs.List.Sorted.{IsStrictlyIncreasing}
use Rattle.std.proofs.lemmas.Bool.Decides.{leb_tells, Decides-eqb, Decides-ltb, Decides-and, Decides-like, Decides-by_and, Decides-by_or}
use Rattle.std.proofs.lemmas.List.{get_or_default, get_or-map, length-map}
use Rattle.std.proofs.lemmas.List.Elements.{All-from_get_or, All-replicate}
use Rattle.std.proofs.lemmas.List.FromFn.{length-map-range_with_len, get_or-map-range_with_len}
use Rattle.std.proofs.lemmas.Nat.{div-add-mod', le-div}
use Rattle.std.proofs.Math.Nat.{mul-mod_left, zero-mul, le-div_iff_mul-le}
use Rattle.scmi_codec.specs.Name.{IsLooseName, IsName}
use Rattle.scmi_codec.specs.declared.name.TheConstants.{NAME_BYTES}
use Rattle.scmi_plan.specs.Board.{Board, IsChannel, IsNameIf, IsNameOf, own_protocols, whole_channel}
use Rattle.scmi_plan.specs.BoardRows.{AreRows, HasNames, board_of_rows}
use Rattle.scmi_plan.specs.Plan.{IsValid}
use Rattle.scmi_plan.specs.Protocols.{AreProtocols}
use Rattle.scmi_plan.specs.Rates.{SupportedRates, HasValidRates, IsSupported}
use Rattle.scmi_plan.specs.PlanError.{is_loose_name, is_name, is_name_of, rises, is_valid_list, is_valid, supports, has_valid_counts, has_valid_names, has_valid_clocks, has_valid_devices, has_trusted_agent, first_fault}
use Rattle.scmi_plan.specs.RawPlan.{asked_board, asked_domain, asked_clock}
use Rattle.scmi_plan.specs.declared.limits.TheConstants.{AGENTS, DOMAINS, CLOCKS, DEVICES, RATES}
use Rattle.scmi_plan.specs.declared.board_rows.BoardRows.TheInside.{Inside}
use Rattle.scmi_plan.specs.declared.raw_plan.RawPlan.{RawPlan}
use Rattle.scmi_plan.specs.declared.clock.Clock.{Clock}
use Rattle.scmi_plan.specs.declared.device.Device.{Device}
use Rattle.scmi_plan.specs.Rates as rates
use Rattle.scmi_plan.specs.declared.plan_error.PlanError.{PlanError}
use Rattle.scmi_plan.specs.declared.plan_error.PlanError.TheVariants as error

pub Decides-leb : (a b : ℕ) → Decides (nat_le a b) (a ≤ b)
Decides-leb a b = pick (leb_tells a b) where
  pick : ((nat_le a b ≡ true) × (a ≤ b)) ⊎ ((nat_le a b ≡ false) × (b < a))
      → Decides (nat_le a b) (a ≤ b)
  pick (inl t) = (λ _. t.1, λ _. t.0)
  pick (inr t) = (λ e. let no = t.0 in cc, λ h. let no = t.1 in absurd (omega arith))

-- a second test that decides only where the first passes
Decides-then : {P Q : Type 0} (x y : Bool) → Decides x P → (P → Decides y Q)
    → Decides (x && y) (P × Q)
Decides-then true y d e = let p = d.0 refl in (λ h. (p, (e p).0 h), λ w. (e w.0).1 w.1)
Decides-then false y d e = (λ h. cc, λ w. d.1 w.0)

Decides-list_all : {X : Type 0} (p : X → Bool) (P : X → Type 0) → ((x : X) → Decides (p x) (P x))
    → (xs : List X) → Decides (list_all p xs) (All P xs)
Decides-list_all p P each xs = Decides-by_and p P (list_all p) each refl (λ _ _. refl) xs

pub Decides-is_name : (bytes : List ℕ) → Decides (is_name bytes) (IsName bytes)
Decides-is_name bytes =
    Decides-like (is_name bytes)
    (λ w. record { some = w.0.0; few = w.0.1; printable = w.1 })
    (λ name. ((name.some, name.few), name.printable))
    (Decides-and _ _
    (Decides-and _ _ (Decides-leb 1 (length bytes)) (Decides-leb (length bytes) NAME_BYTES))
    (Decides-list_all (λ byte. nat_le 0x21 byte && nat_le byte 0x7E)
    (λ byte. (0x21 ≤ byte) × (byte ≤ 0x7E))
    (λ byte. Decides-and _ _ (Decides-leb 0x21 byte) (Decides-leb byte 0x7E)) bytes))

Decides-is_loose_name : (bytes : List ℕ) → Decides (is_loose_name bytes) (IsLooseName bytes)
Decides-is_loose_name bytes =
    Decides-like (is_loose_name bytes) (λ w. record { few = w.0; text = w.1 })
    (λ name. (name.few, name.text))
    (Decides-and _ _ (Decides-leb (length bytes) NAME_BYTES)
    (Decides-list_all (λ byte. nat_le 0x20 byte && nat_le byte 0x7E)
    (λ byte. (0x20 ≤ byte) × (byte ≤ 0x7E))
    (λ byte. Decides-and _ _ (Decides-leb 0x20 byte) (Decides-leb byte 0x7E)) bytes))

Decides-is_name_of : (board : Board) (bytes : List ℕ)
    → Decides (is_name_of board bytes) (IsNameOf board bytes)
Decides-is_name_of board bytes = by board.loose where
  by : (loose : Bool)
      → Decides (if loose then is_loose_name bytes else is_name bytes) (IsNameIf loose bytes)
  by true = Decides-is_loose_name bytes
  by false = Decides-is_name bytes

pub Decides-rises : (xs : List ℕ) → Decides (rises xs) (IsStrictlyIncreasing xs)
Decides-rises [] = (λ _ k h. absurd (omega (arith, h)), λ _. refl)
Decides-rises (x ∷ []) = (λ _ k h. absurd (omega (arith, h)), λ _. refl)
Decides-rises (x ∷ y ∷ xs) =
    Decides-like (rises (x ∷ y ∷ xs)) to from
    (Decides-and _ _ (Decides-ltb x y) (Decides-rises (y ∷ xs))) where
      to : (x < y) × IsStrictlyIncreasing (y ∷ xs) → IsStrictlyIncreasing (x ∷ y ∷ xs)
      to w zero h = w.0
      to w (suc k) h =
          let next : k + 1 ≡ suc k = omega arith in
          let rest : get_or (y ∷ xs) k 0 < get_or (y ∷ xs) (k + 1) 0 = w.1 k (omega arith) in
          let after : suc k + 1 ≡ suc (suc k) = omega arith in
          rw after (rw next at rest)

      from : IsStrictlyIncreasing (x ∷ y ∷ xs) → (x < y) × IsStrictlyIncreasing (y ∷ xs)
      from w = (w 0 (omega arith), rest) where
        rest : IsStrictlyIncreasing (y ∷ xs)
        rest k h =
            let next : k + 1 ≡ suc k = omega arith in
            let after : suc k + 1 ≡ suc (suc k) = omega arith in
            let here : get_or (y ∷ xs) k 0 < get_or (x ∷ y ∷ xs) (suc k + 1) 0 =
            w (suc k) (omega (arith, h)) in
            rw next (rw after at here)

Decides-is_valid : (r : SupportedRates) → Decides (is_valid r) (HasValidRates r)
Decides-is_valid (rates.list list) =
    Decides-like (is_valid_list list) (λ w. (w.0.0, w.0.1, w.1)) (λ w. ((w.0, w.1), w.2))
    (Decides-and _ _ (Decides-and _ _ (Decides-leb 1 (length list))
    (Decides-leb (length list) RATES)) (Decides-rises list))
Decides-is_valid (rates.steps low high step) =
    Decides-like (is_valid (rates.steps low high step)) (λ w. (w.0.0, w.0.1, w.1))
    (λ w. ((w.0, w.1), w.2))
    (Decides-and _ _ (Decides-and _ _ (Decides-leb 1 step) (Decides-leb low high))
    (Decides-eqb ((high - low) % step) 0))

Decides-is_in : (list : List ℕ) (rate : ℕ)
    → Decides (list_any (λ r. r == rate) list) (Contains list rate)
Decides-is_in list rate =
    Decides-like (list_any (λ r. r == rate) list)
    (λ w. (w.0, w.1, w.2 rate))
    (λ w. (w.0, w.1, λ d. get_or_default list w.0 d rate w.1 ∙ w.2))
    (Decides-by_or (λ r. r == rate) (λ r. r ≡ rate) (list_any (λ r. r == rate))
    (λ r. Decides-eqb r rate) refl (λ _ _. refl) list)

-- a rate between the lowest and the highest is supported where it is a number of steps above the
-- lowest
Decides-is_step : (low high step rate : ℕ) → 1 ≤ step → low ≤ high → Decides
    (supports (rates.steps low high step) rate) (IsSupported (rates.steps low high step) rate)
Decides-is_step low high step rate some up =
    Decides-like (supports (rates.steps low high step) rate) to from
    (Decides-and _ _ (Decides-and _ _ (Decides-leb low rate) (Decides-leb rate high))
    (Decides-eqb ((rate - low) % step) 0)) where
      count : ℕ
      count = (high - low) / step + 1

      nth : ℕ → ℕ
      nth k = low + k * step

      all : List ℕ
      all = map nth (range_with_len 0 count)

      length-all : length all ≡ count
      length-all = length-map-range_with_len nth 0 count

      at : (k : ℕ) → k < count → get_or all k rate ≡ low + k * step
      at k small = get_or-map-range_with_len nth 0 count k k rate small (omega arith)

      to : ((low ≤ rate) × (rate ≤ high)) × ((rate - low) % step ≡ 0) → Contains all rate
      to w =
          let k = (rate - low) / step in
          let whole : k * step + (rate - low) % step ≡ rate - low =
          div-add-mod' (rate - low) step in
          let ends = w.1 in
          let above = w.0.0 in
          let below = w.0.1 in
          let reach : k * step ≤ high - low = omega arith in
          let within : k ≤ (high - low) / step = le-div k (high - low) step some reach in
          let small : k < (high - low) / step + 1 = omega arith in
          let rate_is : low + k * step ≡ rate = omega arith in
          (k, subst (λ n. k < n) (sym length-all) small, at k small ∙ rate_is)

      from : Contains all rate → ((low ≤ rate) × (rate ≤ high)) × ((rate - low) % step ≡ 0)
      from w =
          let k = w.0 in
          let small : k < (high - low) / step + 1 = subst (λ n. k < n) length-all w.1 in
          let rate_is : low + k * step ≡ rate = sym (at k small) ∙ w.2 in
          let within : k ≤ (high - low) / step = omega arith in
          let reach : k * step ≤ high - low = (le-div_iff_mul-le some).0 within in
          let above : rate - low ≡ k * step = omega arith in
          ((omega arith, omega arith), ap (λ n. n % step) above ∙ mul-mod_left k step)

Decides-supports : (r : SupportedRates) (rate : ℕ) → HasValidRates r
    → Decides (supports r rate) (IsSupported r rate)
Decides-supports (rates.list list) rate valid = Decides-is_in list rate
Decides-supports (rates.steps low high step) rate valid =
    Decides-is_step low high step rate valid.0 valid.1

Decides-unless : {P : Type 0} (loose x : Bool) → Decides x P
    → Decides (loose || x) (loose ≡ false → P)
Decides-unless true x d = (λ _ no. absurd (cc), λ _. refl)
Decides-unless false x d = (λ h _. d.0 h, λ w. d.1 (w refl))

Decides-clock : (loose : Bool) (clock : Clock)
    → Decides (is_valid clock.rates && (loose || supports clock.rates clock.rate))
    (HasValidRates clock.rates × (loose ≡ false → IsSupported clock.rates clock.rate))
Decides-clock loose clock =
    Decides-then _ _ (Decides-is_valid clock.rates)
    (λ valid. Decides-unless loose (supports clock.rates clock.rate)
    (Decides-supports clock.rates clock.rate valid))

-- what `is_sorted_by` answers for "is below the next"
pub Decides-below_next : (r : Bool) (xs : List ℕ)
    → IsAllAdjacentAnswer (λ x y b. b ≡ nat_lt x y) xs r → Decides r (IsStrictlyIncreasing xs)
Decides-below_next true xs below =
    (λ _ k h. (Decides-ltb (get_or xs k 0) (get_or xs (k + 1) 0)).0 (sym (below k 0 h)), λ _. refl)
Decides-below_next false xs falls = (
  λ e. cc,
  λ up. falls.2 0
      ∙ (Decides-ltb (get_or xs falls.0 0) (get_or xs (falls.0 + 1) 0)).1 (up falls.0 falls.1),
)

module _ (board : Board) where
  abbrev IsWithin : Device → Type 0
  IsWithin device = (device.domains < 2 ^ length board.domains)
      × (device.clocks < 2 ^ length board.clocks)

  Decides-counts : Decides (has_valid_counts board)
      (((((1 ≤ length board.agents) × (length board.agents ≤ AGENTS)) × (length board.domains
      ≤ DOMAINS)) × (length board.clocks ≤ CLOCKS)) × (length board.devices ≤ DEVICES))
  Decides-counts =
      Decides-and _ _ (Decides-and _ _ (Decides-and _ _ (Decides-and _ _
      (Decides-leb 1 (length board.agents)) (Decides-leb (length board.agents) AGENTS))
      (Decides-leb (length board.domains) DOMAINS)) (Decides-leb (length board.clocks) CLOCKS))
      (Decides-leb (length board.devices) DEVICES)

  Decides-names : Decides (has_valid_names board)
      ((((IsNameOf board board.vendor × IsNameOf board board.sub_vendor)
      × All (λ agent. IsNameOf board agent) board.agents)
      × All (λ domain. IsNameOf board domain.name) board.domains)
      × All (λ clock. IsNameOf board clock.name) board.clocks)
  Decides-names =
      Decides-and _ _ (Decides-and _ _ (Decides-and _ _ (Decides-and _ _
      (Decides-is_name_of board board.vendor) (Decides-is_name_of board board.sub_vendor))
      (Decides-list_all (λ agent. is_name_of board agent) (λ agent. IsNameOf board agent)
      (Decides-is_name_of board) board.agents))
      (Decides-list_all (λ domain. is_name_of board domain.name) (λ domain. IsNameOf board
      domain.name) (λ domain. Decides-is_name_of board domain.name) board.domains))
      (Decides-list_all (λ clock. is_name_of board clock.name) (λ clock. IsNameOf board clock.name)
      (λ clock. Decides-is_name_of board clock.name) board.clocks)

  Decides-clocks : Decides (has_valid_clocks board) (All (λ clock. HasValidRates clock.rates
      × (board.loose ≡ false → IsSupported clock.rates clock.rate)) board.clocks)
  Decides-clocks =
      Decides-list_all
      (λ clock. is_valid clock.rates && (board.loose || supports clock.rates clock.rate))
      (λ clock. HasValidRates clock.rates × (board.loose ≡ false
      → IsSupported clock.rates clock.rate)) (Decides-clock board.loose) board.clocks

  Decides-devices : Decides (has_valid_devices board) (All IsWithin board.devices)
  Decides-devices =
      Decides-list_all (λ device. nat_lt device.domains (2 ^ length board.domains)
      && nat_lt device.clocks (2 ^ length board.clocks)) IsWithin
      (λ device. Decides-and _ _ (Decides-ltb device.domains (2 ^ length board.domains))
      (Decides-ltb device.clocks (2 ^ length board.clocks))) board.devices

  Decides-trusted : Decides (has_trusted_agent board)
      ((1 ≤ board.trusted) × (board.trusted ≤ length board.agents))
  Decides-trusted = Decides-and _ _ (Decides-leb 1 board.trusted)
      (Decides-leb board.trusted (length board.agents))

  -- the five tests together are the law of a board
  Decides-tests : length board.channels ≡ AGENTS → All IsChannel board.channels
      → AreProtocols board.protocols
      → Decides (has_valid_counts board && has_valid_names board && has_valid_clocks board
      && has_valid_devices board && has_trusted_agent board) (IsValid board)
  Decides-tests each channels listed =
      Decides-like _
      (λ w. let counts = w.0.0.0.0 in let names = w.0.0.0.1 in let clocks = w.0.0.1 in
      let devices = w.0.1 in
      record {
        an_agent = counts.0.0.0.0;
        few_agents = counts.0.0.0.1;
        few_domains = counts.0.0.1;
        few_clocks = counts.0.1;
        few_devices = counts.1;
        vendor = names.0.0.0.0;
        sub_vendor = names.0.0.0.1;
        agent_names = names.0.0.1;
        domain_names = λ d small. names.0.1 d _ small;
        clock_names = λ c small. names.1 c _ small;
        valid_rates = λ c small. (clocks c _ small).0;
        supported = λ c small. (clocks c _ small).1;
        known_domains = λ d small. (devices d _ small).0;
        known_clocks = λ d small. (devices d _ small).1;
        trusted = w.1.0;
        trusted_agent = w.1.1;
        channels = each;
        valid_channels = channels;
        protocols = listed;
      })
      (λ law. (
        (
          (
            (
              ((
                (((law.an_agent, law.few_agents), law.few_domains), law.few_clocks),
                law.few_devices,
              )),
              (
                (
                  ((law.vendor, law.sub_vendor), law.agent_names),
                  All-from_get_or
                      (λ domain. IsNameOf board domain.name) board.domains _ law.domain_names,
                ),
                All-from_get_or (λ clock. IsNameOf board clock.name) board.clocks _ law.clock_names,
              ),
            ),
            All-from_get_or (λ clock. HasValidRates clock.rates
                × (board.loose ≡ false → IsSupported clock.rates clock.rate)) board.clocks _
                (λ c small. (law.valid_rates c small, law.supported c small)),
          ),
          All-from_get_or IsWithin board.devices _
              (λ d small. (law.known_domains d small, law.known_clocks d small)),
        ),
        (law.trusted, law.trusted_agent),
      ))
      (Decides-and _ _ (Decides-and _ _ (Decides-and _ _ (Decides-and _ _ Decides-counts
      Decides-names) Decides-clocks) Decides-devices) Decides-trusted)

-- the rule of the first test that fails
abbrev first : (a b c d e : Bool) → Option PlanError
first a b c d e =
    if not a then Some error.Count else if not b then Some error.Name
    else if not c then Some error.Rates else if not d then Some error.Device else if not e
    then Some error.Trusted else None

-- no rule is broken if and only if each test passes
Decides-none : (a b c d e : Bool) → first a b c d e ≡ None
    ↔ (a && b && c && d && e) ≡ true
Decides-none true true true true true = (λ _. refl, λ _. refl)
Decides-none false b c d e = (λ h. cc, λ h. cc)
Decides-none true false c d e = (λ h. cc, λ h. cc)
Decides-none true true false d e = (λ h. cc, λ h. cc)
Decides-none true true true false e = (λ h. cc, λ h. cc)
Decides-none true true true true false = (λ h. cc, λ h. cc)

-- a board whose channels are valid breaks no rule if and only if it is valid
valid_but : (board : Board) → length board.channels ≡ AGENTS → All IsChannel board.channels
    → AreProtocols board.protocols
    → (first_fault board ≡ None) ↔ IsValid board
valid_but board each channels listed =
    let none = Decides-none (has_valid_counts board) (has_valid_names board)
    (has_valid_clocks board) (has_valid_devices board) (has_trusted_agent board) in
    let law = Decides-tests board each channels listed in
    (λ h. law.0 (none.0 h), λ w. none.1 (law.1 w))

-- power domains and clocks are protocols that a board may have
own_protocols_are : AreProtocols own_protocols
own_protocols_are = (omega arith, refl, refl)

-- whole channels are valid
whole_channels : All IsChannel (replicate AGENTS whole_channel)
whole_channels = All-replicate IsChannel AGENTS whole_channel
    (omega arith, omega arith, omega arith, omega arith)

-- a board that was written down breaks no rule if and only if it is valid
pub valid : (raw : RawPlan) → (first_fault (asked_board raw) ≡ None) ↔ IsValid (asked_board raw)
valid raw = valid_but (asked_board raw) refl whole_channels own_protocols_are

-- rows break no rule if and only if their board is valid
pub valid_rows : (rows : Inside) → (first_fault (board_of_rows rows) ≡ None)
    ↔ IsValid (board_of_rows rows)
valid_rows rows = valid_but (board_of_rows rows) refl whole_channels own_protocols_are

-- a board with valid names passes their test
pub names_pass : (board : Board) → HasNames board → has_valid_names board ≡ true
names_pass board names = (Decides-names board).1
    ((((names.vendor, names.sub_vendor), names.agents), names.domains), names.clocks)

fails : (b : Bool) → ¬ (b ≡ true) → b ≡ false
fails true h = absurd (h refl)
fails false h = refl

first_name : (a b c d e : Bool) → a ≡ true → b ≡ false → first a b c d e ≡ Some error.Name
first_name a b c d e pa pb = rw (pa, pb) refl

first_rates : (a b c d e : Bool) → a ≡ true → b ≡ true → c ≡ false
    → first a b c d e ≡ Some error.Rates
first_rates a b c d e pa pb pc = rw (pa, pb, pc) refl

first_device : (a b c d e : Bool) → a ≡ true → b ≡ true → c ≡ true → d ≡ false
    → first a b c d e ≡ Some error.Device
first_device a b c d e pa pb pc pd = rw (pa, pb, pc, pd) refl

first_trusted : (a b c d e : Bool) → a ≡ true → b ≡ true → c ≡ true → d ≡ true → e ≡ false
    → first a b c d e ≡ Some error.Trusted
first_trusted a b c d e pa pb pc pd pe = rw (pa, pb, pc, pd, pe) refl

first_none : (a b c d e : Bool) → a ≡ true → b ≡ true → c ≡ true → d ≡ true → e ≡ true
    → first a b c d e ≡ None
first_none a b c d e pa pb pc pd pe = rw (pa, pb, pc, pd, pe) refl

-- a board of valid counts whose names are not valid breaks the rule of names
pub name_fault : (board : Board) → has_valid_counts board ≡ true → ¬ (HasNames board)
    → first_fault board ≡ Some error.Name
name_fault board counts none =
    first_name (has_valid_counts board) (has_valid_names board) (has_valid_clocks board)
    (has_valid_devices board) (has_trusted_agent board) counts
    (fails (has_valid_names board) (λ pass.
    let names = (Decides-names board).0 pass in
    none (record {
      vendor = names.0.0.0.0;
      sub_vendor = names.0.0.0.1;
      agents = names.0.0.1;
      domains = names.0.1;
      clocks = names.1;
    })))

-- the first rule that the board of rows breaks
module _ (rows : Inside) (are : AreRows rows) where
  abbrev board : Board
  board = board_of_rows rows

  names : has_valid_names board ≡ true
  names = names_pass board are.1

  pub rates_fault : has_valid_clocks board ≡ false → first_fault board ≡ Some error.Rates
  rates_fault clocks =
      first_rates (has_valid_counts board) (has_valid_names board) (has_valid_clocks board)
      (has_valid_devices board) (has_trusted_agent board) are.0 names clocks

  pub device_fault : has_valid_clocks board ≡ true → has_valid_devices board ≡ false
      → first_fault board ≡ Some error.Device
  device_fault clocks devices =
      first_device (has_valid_counts board) (has_valid_names board) (has_valid_clocks board)
      (has_valid_devices board) (has_trusted_agent board) are.0 names clocks devices

  pub trusted_fault : has_valid_clocks board ≡ true → has_valid_devices board ≡ true
      → has_trusted_agent board ≡ false → first_fault board ≡ Some error.Trusted
  trusted_fault clocks devices trusted =
      first_trusted (has_valid_counts board) (has_valid_names board) (has_valid_clocks board)
      (has_valid_devices board) (has_trusted_agent board) are.0 names clocks devices trusted

  pub no_fault : has_valid_clocks board ≡ true → has_valid_devices board ≡ true
      → has_trusted_agent board ≡ true → first_fault board ≡ None
  no_fault clocks devices trusted =
      first_none (has_valid_counts board) (has_valid_names board) (has_valid_clocks board)
      (has_valid_devices board) (has_trusted_agent board) are.0 names clocks devices trusted

-- a valid board has valid counts, and valid names
pub counts_of_valid : (board : Board) → IsValid board → has_valid_counts board ≡ true
counts_of_valid board law = (Decides-counts board).1
    ((((law.an_agent, law.few_agents), law.few_domains), law.few_clocks), law.few_devices)

pub names_of_valid : (board : Board) → IsValid board → HasNames board
names_of_valid board law = record {
  vendor = law.vendor;
  sub_vendor = law.sub_vendor;
  agents = law.agent_names;
  domains = All-from_get_or (λ domain. IsNameOf board domain.name) board.domains _ law.domain_names;
  clocks = All-from_get_or (λ clock. IsNameOf board clock.name) board.clocks _ law.clock_names;
}

-- a set has only members below a count where nothing is left above it
pub Decides-below : (set p : ℕ) → 0 < p → Decides (set / p == 0) (set < p)
Decides-below set p some = Decides-like (set / p == 0) to from (Decides-eqb (set / p) 0) where
  to : set / p ≡ 0 → set < p
  to e =
      let split : set / p * p + set % p ≡ set = div-add-mod' set p in
      let gone : set / p * p ≡ 0 = ap (λ q. q * p) e ∙ zero-mul p in
      let rest : set % p < p = mod-lt set some in
      omega arith

  from : set < p → set / p ≡ 0
  from h = pick (leb_tells 1 (set / p)) where
    pick : ((nat_le 1 (set / p) ≡ true) × (1 ≤ set / p))
        ⊎ ((nat_le 1 (set / p) ≡ false) × (set / p < 1)) → set / p ≡ 0
    pick (inl t) = let over : 1 * p ≤ set = (le-div_iff_mul-le some).0 t.1 in absurd (omega arith)
    pick (inr t) = let none = t.1 in omega arith

-- what holds of what a list's members give
pub All-of_map : {X Y : Type 0} (P : Y → Type 0) (f : X → Y) (xs : List X) → All P (map f xs)
    → All (λ x. P (f x)) xs
All-of_map P f xs all k d small = subst P (get_or-map f xs k d (f d) small)
    (all k (f d) (subst (λ n. k < n) (sym (length-map xs f)) small))

-- the names of a valid board's agents, domains and clocks as they were written down
pub named_agents : (raw : RawPlan) → IsValid (asked_board raw)
    → All (λ agent. IsName (string_bytes agent)) raw.agents.items
named_agents raw law = All-of_map IsName string_bytes raw.agents.items law.agent_names

pub named_domains : (raw : RawPlan) → IsValid (asked_board raw)
    → All (λ domain. IsName (string_bytes domain.name)) raw.domains.items
named_domains raw law =
    All-of_map (λ domain. IsName domain.name) asked_domain raw.domains.items
    (All-from_get_or (λ domain. IsName domain.name)
    (map asked_domain raw.domains.items) _ law.domain_names)

pub named_clocks : (raw : RawPlan) → IsValid (asked_board raw)
    → All (λ clock. IsName (string_bytes clock.name)) raw.clocks.items
named_clocks raw law =
    All-of_map (λ clock. IsName clock.name) asked_clock raw.clocks.items
    (All-from_get_or (λ clock. IsName clock.name)
    (map asked_clock raw.clocks.items) _ law.clock_names)
