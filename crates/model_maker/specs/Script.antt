-- The script that runs over the made files.
use Rattle.std.specs.Prelude.{ℕ, List, ◌++◌, codes}

-- the text of the script
unfoldable pub made_script : List ℕ
made_script =
    codes "binding\n"
    ++ codes "Ldd = made_ldd.asc : ldd;\n"
    ++ codes "Zone = made_zone.asc : nominal;\n"
    ++ codes "Soil = made_soil.asc;\n"
    ++ codes "Rain = made_rain.tss;\n"
    ++ codes "Q = q;\n"
    ++ codes "T = made_q.tss;\n"
    ++ codes "areamap Ldd;\n"
    ++ codes "timer 1 4 1;\n"
    ++ codes "initial\n"
    ++ codes "Store = 0;\n"
    ++ codes "dynamic\n"
    ++ codes "Wet = timeinputscalar(Rain, Zone) + windowaverage(Soil, 3);\n"
    ++ codes "Store = Store + accuthresholdstate(Ldd, Wet, Soil);\n"
    ++ codes "report Q = accuthresholdflux(Ldd, Wet, Soil);\n"
    ++ codes "report Mean = areaaverage(Wet, Zone);\n"
    ++ codes "report T = timeoutput(Zone, Q);\n"
