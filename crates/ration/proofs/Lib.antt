mod Gettings
