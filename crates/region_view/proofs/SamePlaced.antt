-- Two placed disks are the same or not.
use Rattle.std.proofs.Common.{◌≡◌, ◌==◌, Bool, ◌&&◌, Decides, ap}
use Rattle.std.specs.Ordering.{int_eq}
use Rattle.std.proofs.lemmas.Bool.Decides.{Decides-and, Decides-like, Decides-eqb, Decides-int_eq}
use Rattle.fixed_motion.specs.declared.disk.Disk.{Disk}
use Rattle.region_view.specs.declared.action.Placed.{Placed}

abbrev pub disk_eq : Disk → Disk → Bool
disk_eq a b = int_eq a.x b.x && (int_eq a.y b.y && (int_eq a.vx b.vx && (int_eq a.vy b.vy
    && (int_eq a.size b.size && (a.base == b.base && a.mark == b.mark)))))

disk_decides : (a b : Disk) → Decides (disk_eq a b) (a ≡ b)
disk_decides a b = Decides-like (disk_eq a b)
    (λ h i. record {
      x = h.0 i;
      y = h.1.0 i;
      vx = h.1.1.0 i;
      vy = h.1.1.1.0 i;
      size = h.1.1.1.1.0 i;
      base = h.1.1.1.1.1.0 i;
      mark = h.1.1.1.1.1.1 i;
    })
    (λ e. (
      ap (λ (v : Disk). v.x) e,
      (
        ap (λ (v : Disk). v.y) e,
        (
          ap (λ (v : Disk). v.vx) e,
          (
            ap (λ (v : Disk). v.vy) e,
            (
              ap (λ (v : Disk). v.size) e,
              (ap (λ (v : Disk). v.base) e, ap (λ (v : Disk). v.mark) e),
            ),
          ),
        ),
      ),
    ))
    (Decides-and _ _ (Decides-int_eq a.x b.x) (Decides-and _ _ (Decides-int_eq a.y b.y)
    (Decides-and _ _ (Decides-int_eq a.vx b.vx) (Decides-and _ _ (Decides-int_eq a.vy b.vy)
    (Decides-and _ _ (Decides-int_eq a.size b.size)
    (Decides-and _ _ (Decides-eqb a.base b.base) (Decides-eqb a.mark b.mark)))))))

abbrev pub placed_eq : Placed → Placed → Bool
placed_eq p q = disk_eq p.disk q.disk && p.cell == q.cell

pub placed_decides : (p q : Placed) → Decides (placed_eq p q) (p ≡ q)
placed_decides p q = Decides-like (placed_eq p q)
    (λ h i. record { disk = h.0 i; cell = h.1 i })
    (λ e. (ap (λ (v : Placed). v.disk) e, ap (λ (v : Placed). v.cell) e))
    (Decides-and _ _ (disk_decides p.disk q.disk) (Decides-eqb p.cell q.cell))
